-- A solving order and block numbers that are given, and a test that they are the placing: what each equation reaches is computed,
-- and every part of the statement is tried.
use mathlib.Core.Path.{◌≡◌, refl}
use mathlib.Core.Bool.{Bool, true, not, ◌&&◌}
use mathlib.Core.List.{List, [], ◌∷◌}
use Prim.Native.Nat.{ℕ, suc, ◌<◌}
use native.Mathlib.Omega.{arith}
use lib.Dec.{eqb, ltb, leb}
use lib.ListN.{get_or}
use borrow.Author.Tests.{eqb-true, eq-eqb, ltb-true, lt-ltb, leb-true, le-leb}
use Rattle.laws.specs.Count.{any}
use Rattle.laws.specs.Marks.{marked}
use Rattle.laws.specs.Tab.{tab}
use Rattle.laws.proofs.Tests.{test, given, clash, not_true, and_left, and_right, and_both}
use Rattle.laws.proofs.Search.{any_here, any_where}
use Rattle.laws.proofs.Tab.{get_or_tab}
use Rattle.pairing.specs.Pairing.{Rel}
use Rattle.blocks.specs.Blocks.{Reaches, Shares, Stands, Ready, before, Placed}
use Rattle.blocks.specs.Blocks.Reaches.{here, step}
use Rattle.blocks.specs.Handed.{Within}
use Rattle.analysis.proofs.Finite.{all, all_at, all_from, all2, all2_at, implies, implies_at, all_true, all_true_at}
use Rattle.laws.proofs.Closure.{closure, closure_only, closure_start, closure_closed}

-- what each equation reaches, a row an equation
abbrev pub reach_rows : ℕ → Rel → List (List Bool)
reach_rows n R = tab n (λ e. closure n R (eqb e))

abbrev reaches : List (List Bool) → Rel
reaches rows e g = marked (get_or rows e []) g

abbrev shares : List (List Bool) → Rel
shares rows e f = reaches rows e f && reaches rows f e

-- g stands in a block with a number below k
abbrev stands : ℕ → (ℕ → ℕ) → (ℕ → ℕ) → ℕ → ℕ → Bool
stands n o b k g = any n (λ i. eqb (o i) g && ltb (b i) k)

abbrev waits_for : Rel → List (List Bool) → ℕ → Rel
waits_for R rows e f g = shares rows e f && (R f g && not (shares rows e g))

abbrev ready_at : ℕ → Rel → List (List Bool) → (ℕ → ℕ) → (ℕ → ℕ) → ℕ → ℕ → Bool
ready_at n R rows o b k e = all2 n n (λ f g. implies (waits_for R rows e f g) (stands n o b k g))

-- the parts of the statement, each as a test of places i and j
abbrev once_at : (ℕ → ℕ) → Rel
once_at o i j = implies (eqb (o i) (o j)) (eqb i j)

abbrev rises_at : (ℕ → ℕ) → ℕ → Bool
rises_at b i = leb (before b i) (b i) && leb (b i) (suc (before b i))

abbrev same_at : List (List Bool) → (ℕ → ℕ) → (ℕ → ℕ) → Rel
same_at rows o b i j = implies (eqb (b i) (b j)) (shares rows (o i) (o j))

abbrev shared_at : List (List Bool) → (ℕ → ℕ) → (ℕ → ℕ) → Rel
shared_at rows o b i j = implies (shares rows (o i) (o j)) (eqb (b i) (b j))

abbrev ascends_at : (ℕ → ℕ) → (ℕ → ℕ) → Rel
ascends_at o b i j = implies (ltb i j && eqb (b i) (b j)) (ltb (o i) (o j))

abbrev lowest_at : ℕ → Rel → List (List Bool) → (ℕ → ℕ) → (ℕ → ℕ) → Rel
lowest_at n R rows o b i j = implies (leb (b i) (b j) && ready_at n R rows o b (b i) (o j)) (any n (λ h. eqb (b h) (b i) && leb (o h) (o j)))

abbrev placed_tests : ℕ → Rel → List (List Bool) → (ℕ → ℕ) → (ℕ → ℕ) → ℕ → List Bool
placed_tests n R rows o b k =
    all n (λ i. ltb (o i) n)
    ∷ all2 n n (once_at o)
    ∷ all n (λ e. any n (λ i. eqb (o i) e))
    ∷ all n (λ i. leb 1 (b i))
    ∷ all n (rises_at b)
    ∷ eqb k (before b n)
    ∷ all2 n n (same_at rows o b)
    ∷ all2 n n (shared_at rows o b)
    ∷ all2 n n (ascends_at o b)
    ∷ all n (λ i. ready_at n R rows o b (b i) (o i))
    ∷ all2 n n (lowest_at n R rows o b)
    ∷ []

abbrev pub is_placed : ℕ → Rel → (ℕ → ℕ) → (ℕ → ℕ) → ℕ → Bool
is_placed n R o b k = all_true (placed_tests n R (reach_rows n R) o b k)

reach_next : {R : Rel} {e a g : ℕ} → Reaches R e a → R a g ≡ true → Reaches R e g
reach_next {g = g} here s = step g s here
reach_next (step f t r) s = step f t (reach_next r s)

module _ (n : ℕ) (R : Rel) (W : Within n R) where
  abbrev rows : List (List Bool)
  rows = reach_rows n R

  row : (e : ℕ) → e < n → get_or rows e [] ≡ closure n R (eqb e)
  row e h = get_or_tab n (λ e. closure n R (eqb e)) e [] h

  -- what is computed is what is reached
  sound : (e g : ℕ) → e < n → reaches rows e g ≡ true → Reaches R e g
  sound e g h t = closure_only n R (eqb e) (λ g. Reaches R e g) (λ g b s. rw (eqb-true e g s) here) (λ a g b c r s. reach_next r s) g (rw (row e h) at t)

  onward : (e a : ℕ) → e < n → a < n → reaches rows e a ≡ true → {g : ℕ} → Reaches R a g → reaches rows e g ≡ true
  onward e a h b t here = t
  onward e a h b t (step f s r) = let c = W.col a f s in
      onward e f h c (rw (row e h) (closure_closed n R (eqb e) a f b c (rw (row e h) at t) s)) r

  complete : (e g : ℕ) → e < n → Reaches R e g → reaches rows e g ≡ true
  complete e g h r = onward e e h h (rw (row e h) (closure_start n R (eqb e) e h (eq-eqb e e refl))) r

  share : (e f : ℕ) → e < n → f < n → shares rows e f ≡ true → Shares R e f
  share e f h k t = record {
    there = sound e f h (and_left (reaches rows e f) (reaches rows f e) t);
    back = sound f e k (and_right (reaches rows e f) (reaches rows f e) t);
  }

  shared : (e f : ℕ) → e < n → f < n → Shares R e f → shares rows e f ≡ true
  shared e f h k s = and_both (complete e f h s.there) (complete f e k s.back)

  module _ (o b : ℕ → ℕ) where
    standing : (k g : ℕ) → stands n o b k g ≡ true → Stands n o b k g
    standing k g t = given (any_where {n = n} (λ i. eqb (o i) g && ltb (b i) k) t) (λ (i, h, w). record {
      place = i;
      within = h;
      is = eqb-true (o i) g (and_left (eqb (o i) g) (ltb (b i) k) w);
      earlier = ltb-true (b i) k (and_right (eqb (o i) g) (ltb (b i) k) w);
    })

    -- the test of readiness says what readiness is
    ready_from : (k e : ℕ) → e < n → ready_at n R rows o b k e ≡ true → Ready n R o b k e
    ready_from k e h t = record {
      stand = λ f g s w d. let a = W.row f g w in let c = W.col f g w in
          standing k g (implies_at (all2_at (λ f g. implies (waits_for R rows e f g) (stands n o b k g)) t f g a c)
          (and_both (shared e f h a s) (and_both w (apart e g h c d))));
    }
      where
        apart : (e g : ℕ) → e < n → g < n → (Shares R e g → ⊥) → not (shares rows e g) ≡ true
        apart e g h c d = rw (not_true (λ x. d (share e g h c x))) refl

    ready_to : (k e : ℕ) → e < n → Ready n R o b k e → ready_at n R rows o b k e ≡ true
    ready_to k e h r = all_from n (λ f. all n (λ g. implies (waits_for R rows e f g) (stands n o b k g))) (λ f a.
        all_from n (λ g. implies (waits_for R rows e f g) (stands n o b k g)) (λ g c. test (waits_for R rows e f g)
        (λ t. rw t (found f g a c t)) (λ t. rw t refl)))
      where
        found : (f g : ℕ) → f < n → g < n → waits_for R rows e f g ≡ true → stands n o b k g ≡ true
        found f g a c t =
            let in-it = and_left (shares rows e f) (R f g && not (shares rows e g)) t in
            let rest = and_right (shares rows e f) (R f g && not (shares rows e g)) t in
            let s = r.stand f g (share e f h a in-it) (and_left (R f g) (not (shares rows e g)) rest)
            (λ x. clash (and_right (R f g) (not (shares rows e g)) rest) (rw (shared e g h c x) refl)) in
            any_here (λ i. eqb (o i) g && ltb (b i) k) s.place s.within (and_both (eq-eqb (o s.place) g s.is) (lt-ltb (b s.place) k s.earlier))

pub is_placed_lem : (n : ℕ) (R : Rel) → Within n R → (o b : ℕ → ℕ) (k : ℕ) → is_placed n R o b k ≡ true → Placed n R o b k
is_placed_lem n R W o b k t = record {
  within = inside;
  once = λ i j h l q. eqb-true i j (implies_at (all2_at (once_at o) (at 1) i j h l) (eq-eqb (o i) (o j) q));
  every = λ e h. given (any_where {n = n} (λ i. eqb (o i) e) (all_at (λ e. any n (λ i. eqb (o i) e)) (at 2) e h)) (λ (i, l, w). (i, l, eqb-true (o i) e w));
  from_one = λ i h. leb-true 1 (b i) (all_at (λ i. leb 1 (b i)) (at 3) i h);
  rises = λ i h. leb-true (before b i) (b i) (and_left (leb (before b i) (b i)) (leb (b i) (suc (before b i))) (all_at (rises_at b) (at 4) i h));
  by_one = λ i h. leb-true (b i) (suc (before b i)) (and_right (leb (before b i) (b i)) (leb (b i) (suc (before b i))) (all_at (rises_at b) (at 4) i h));
  last = eqb-true k (before b n) (at 5);
  same = λ i j h l q. share n R W (o i) (o j) (inside i h) (inside j l) (implies_at (all2_at (same_at rows o b) (at 6) i j h l) (eq-eqb (b i) (b j) q));
  shared = λ i j h l s. eqb-true (b i) (b j) (implies_at (all2_at (shared_at rows o b) (at 7) i j h l) (shared n R W (o i) (o j) (inside i h) (inside j l) s));
  ascends = λ i j q l e. let h : i < n = omega arith in
      ltb-true (o i) (o j) (implies_at (all2_at (ascends_at o b) (at 8) i j h l) (and_both (lt-ltb i j q) (eq-eqb (b i) (b j) e)));
  ready = λ i h. ready_from n R W o b (b i) (o i) (inside i h) (all_at (λ i. ready_at n R rows o b (b i) (o i)) (at 9) i h);
  lowest = λ i j h l q r. given (any_where {n = n} (λ h. eqb (b h) (b i) && leb (o h) (o j))
      (implies_at (all2_at (lowest_at n R rows o b) (at 10) i j h l) (and_both (le-leb (b i) (b j) q) (ready_to n R W o b (b i) (o j) (inside j l) r))))
      (λ (g, c, w). (
        g,
        c,
        eqb-true (b g) (b i) (and_left (eqb (b g) (b i)) (leb (o g) (o j)) w),
        leb-true (o g) (o j) (and_right (eqb (b g) (b i)) (leb (o g) (o j)) w),
      ));
}
  where
    rows : List (List Bool)
    rows = reach_rows n R

    at : (i : ℕ) → get_or (placed_tests n R (reach_rows n R) o b k) i true ≡ true
    at = all_true_at (placed_tests n R (reach_rows n R) o b k) t

    inside : (i : ℕ) → i < n → o i < n
    inside i h = ltb-true (o i) n (all_at (λ i. ltb (o i) n) (at 0) i h)
