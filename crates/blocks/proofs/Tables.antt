-- Tables of codes 1 and 0 as the functions fill them.
use mathlib.Core.Path.{◌≡◌, refl, sym, ◌∙◌}
use mathlib.Core.Bool.{not, ◌&&◌}
use mathlib.Core.List.{List, []}
use Prim.Native.Nat.{ℕ, ◌+◌, ◌<◌, ◌≤◌}
use native.Mathlib.Omega.{arith}
use lib.Dec.{ltb, eqb}
use lib.ListN.{length, get_or, set, replicate, length-set}
use lib.Seq.{get_or-set_same, get_or-set_other}
use borrow.Author.Tests.{eqb-true, eqb-false, eq-eqb, ne_eqb, lt-ltb, le-ltb, ltb-true, ltb-false}
use Rattle.laws.specs.Count.{bit}
use Rattle.laws.specs.Tab.{tab, pick, upto}
use Rattle.laws.proofs.Tests.{test}
use Rattle.laws.proofs.Tab.{length_tab, get_or_tab, is_tab, tab_ext, upto_below, upto_from, replicate_tab, fill_step}
use Rattle.table.specs.Model.{limit, code_at, square}
use Rattle.table.proofs.Model.{square_at}
use Rattle.pairing.specs.Pairing.{Rel}
use Rattle.blocks.specs.Blocks.{needs_at}
use Rattle.blocks.specs.Steps.{at_once, either, through_at, through_code}

-- a loop that fills one place after another: a turn
pub fill_next : {A : Type 0} (n i : ℕ) (f g : ℕ → A) (l : List A) (v : A) → l ≡ tab n (upto i f g) → v ≡ f i → i < n
    → set l i v ≡ tab n (upto (i + 1) f g)
fill_next n i f g l v p q b = rw (p, q) (fill_step n i f g b)

-- a loop that stops at i: from there on nothing is left to fill
pub fill_rest : {A : Type 0} (n i : ℕ) (f g : ℕ → A) → ((k : ℕ) → i ≤ k → f k ≡ g k) → tab n (upto i f g) ≡ tab n f
fill_rest n i f g rest = tab_ext n (upto i f g) f
    (λ k b. test (ltb k i) (λ t. upto_below i f g k (ltb-true k i t))
    (λ t. upto_from i f g k (ltb-false k i t) ∙ sym (rest k (ltb-false k i t))))

-- a row left as it is
pub row_left : (row other : List ℕ) (k : ℕ) → length row ≡ limit → get_or row k 0 ≡ 0
    → row ≡ tab limit (λ g. pick (eqb (get_or row k 0) 0) (get_or row g 0) (either (get_or row g 0) (get_or other g 0)))
row_left row other k n z =
    is_tab row 0 limit (λ g. pick (eqb (get_or row k 0) 0) (get_or row g 0) (either (get_or row g 0) (get_or other g 0))) n
    (λ g b. rw (eq-eqb (get_or row k 0) 0 z))

-- codes 1 and 0 joined are codes 1 and 0
pub through_bits : (T : Rel) (t : List (List ℕ)) (k : ℕ) → t ≡ square (λ e g. bit (T e g)) → k < limit
    → square (through_code t k) ≡ square (λ e g. bit (through_at k T e g))
through_bits T t k p l = tab_ext limit (λ e. tab limit (through_code t k e)) (λ e. tab limit (λ g. bit (through_at k T e g)))
    (λ e h. tab_ext limit (through_code t k e) (λ g. bit (through_at k T e g)) (λ g b. at_each e g h b))
  where
    code : (e g : ℕ) → e < limit → g < limit → code_at t e g ≡ bit (T e g)
    code e g h b = rw p (square_at (λ e g. bit (T e g)) e g h b)

    at_each : (e g : ℕ) → e < limit → g < limit → through_code t k e g ≡ bit (through_at k T e g)
    at_each e g h b = rw (code e k h l, code e g h b, code k g l b)
        (test (T e k)
        (λ x. test (T e g) (λ y. test (T k g) (λ z. rw (x, y, z)) (λ z. rw (x, y, z))) (λ y. test (T k g) (λ z. rw (x, y, z)) (λ z. rw (x, y, z))))
        (λ x. test (T e g) (λ y. rw (x, y)) (λ y. rw (x, y))))

-- the needs, row by row
module _ (m : ℕ) (leading : Rel) (partner : ℕ → ℕ) where
  abbrev pub need_bit : ℕ → ℕ → ℕ
  need_bit f g = bit (needs_at m leading partner f g)

  -- as far as the last equation, and zeros beyond
  pub need_row_tab : (f : ℕ) → f < m → tab limit (λ g. pick (ltb g m) (bit (not (eqb f g) && leading f (partner g))) 0) ≡ tab limit (need_bit f)
  need_row_tab f h = tab_ext limit (λ g. pick (ltb g m) (bit (not (eqb f g) && leading f (partner g))) 0) (need_bit f)
      (λ g l. rw (lt-ltb f m h) (test (ltb g m) (λ t. rw t) (λ t. rw t)))

  pub needs_tab : tab limit (λ f. pick (ltb f m) (tab limit (need_bit f)) (replicate limit 0)) ≡ square need_bit
  needs_tab = tab_ext limit (λ f. pick (ltb f m) (tab limit (need_bit f)) (replicate limit 0)) (λ f. tab limit (need_bit f))
      (λ f l. test (ltb f m) (λ t. rw t) (λ t. rw t (replicate_tab {A = ℕ} limit 0 ∙ tab_ext limit (λ g. 0) (need_bit f) (λ g _. rw t))))

-- an equation's own place is set in its row
module _ (m : ℕ) (R : Rel) where
  abbrev pub own_row : ℕ → List ℕ
  own_row e = tab limit (λ g. bit (at_once m R e g))

  abbrev pub old_row : ℕ → List ℕ
  old_row e = tab limit (λ g. bit (R e g))

  own_row_lem : (e : ℕ) → e < m → e < limit → set (old_row e) e 1 ≡ own_row e
  own_row_lem e h l = is_tab (set (old_row e) e 1) 0 limit (λ g. bit (at_once m R e g)) (simp (length-set, length_tab))
      (λ g b. test (eqb g e) (λ t. here g (eqb-true g e t)) (λ t. there g b (eqb-false g e t)))
    where
      here : (g : ℕ) → g ≡ e → get_or (set (old_row e) e 1) g 0 ≡ bit (at_once m R e g)
      here g q = rw q (get_or-set_same (old_row e) e 1 0 (rw (length_tab limit (λ g. bit (R e g))) l)
          ∙ test (R e e) (λ t. rw t) (λ t. rw (t, lt-ltb e m h, eq-eqb e e refl)))

      there : (g : ℕ) → g < limit → (g ≡ e → ⊥) → get_or (set (old_row e) e 1) g 0 ≡ bit (at_once m R e g)
      there g b ne = get_or-set_other (old_row e) e g 1 0 ne ∙ get_or_tab limit (λ g. bit (R e g)) g 0 b
          ∙ test (R e g) (λ t. rw t) (λ t. rw (t, lt-ltb e m h, ne_eqb e g (λ q. ne (sym q))))

  pub own_next : (e : ℕ) (rows : List (List ℕ)) → rows ≡ tab limit (upto e own_row old_row) → e < m → e < limit
      → set rows e (set (get_or rows e []) e 1) ≡ tab limit (upto (e + 1) own_row old_row)
  own_next e rows p h l = fill_next limit e own_row old_row rows _ p
      ((rw (p, get_or_tab limit (upto e own_row old_row) e [] l, upto_from e own_row old_row e (omega arith)) (own_row_lem e h l))) l

  pub own_end : tab limit (upto m own_row old_row) ≡ square (λ e g. bit (at_once m R e g))
  own_end = fill_rest limit m own_row old_row
      (λ e l. tab_ext limit (λ g. bit (at_once m R e g)) (λ g. bit (R e g)) (λ g _. test (R e g) (λ t. rw t) (λ t. rw (t, le-ltb e m l))))
