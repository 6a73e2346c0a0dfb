-- Tables of codes 1 and 0 and the relations that they hold.
use mathlib.Core.Path.{◌≡◌, sym, ◌∙◌, ap}
use mathlib.Core.Bool.{true, not, ◌&&◌}
use mathlib.Core.List.{List, []}
use Prim.Native.Nat.{ℕ, ◌+◌, ◌<◌, ◌≤◌}
use native.Mathlib.Numerals.{add-one}
use native.Mathlib.Omega.{arith}
use lib.Dec.{ltb, eqb}
use borrow.Author.Tests.{ltb-true, ltb-false}
use Rattle.laws.specs.Count.{bit}
use Rattle.laws.specs.Tab.{tab}
use Rattle.laws.proofs.Tests.{test, tests, and_left, and_right, same_test}
use Rattle.laws.proofs.Tab.{get_or_tab, get_or_past, tab_ext}
use Rattle.table.specs.Model.{limit, code_at, occurs_at, square}
use Rattle.table.proofs.Model.{square_at}
use Rattle.pairing.specs.Pairing.{Rel}
use Rattle.blocks.specs.Blocks.{needs_at, Reaches}
use Rattle.blocks.specs.Blocks.Reaches.{here, step}
use Rattle.blocks.specs.Handed.{Bits, ReachTable, Within, Closed}
use Rattle.blocks.specs.Steps.{through_code, ways}
use Rattle.blocks.proofs.Ways.{onward, ways_closed, ways_sound, ways_complete}
use Rattle.blocks.proofs.Tables.{through_bits}
use Rattle.blocks.proofs.Placed.{Alike}

-- beyond its rows and columns a square has nothing
square_past : (f : ℕ → ℕ → ℕ) (e g : ℕ) → (e < limit → g < limit → ⊥) → code_at (square f) e g ≡ 0
square_past f e g out = test (ltb e limit)
    (λ t. rw (get_or_tab limit (λ e. tab limit (f e)) e [] (ltb-true e limit t)) (get_or_past limit (f e) g 0
    (test (ltb g limit) (λ u. absurd (out (ltb-true e limit t) (ltb-true g limit u))) (λ u. ltb-false g limit u))))
    (λ t. rw (get_or_past limit (λ e. tab limit (f e)) e [] (ltb-false e limit t)))

module _ {m : ℕ} {T : Rel} (W : Within m T) (few : m ≤ limit) {t : List (List ℕ)} (is : t ≡ square (λ e g. bit (T e g))) where
  -- a table of a relation's bits holds that relation
  pub holds : (e g : ℕ) → occurs_at t e g ≡ T e g
  holds e g = rw is (test (T e g)
      (λ b. let h = W.row e g b in let l = W.col e g b in
      (rw (square_at (λ e g. bit (T e g)) e g (omega arith) (omega arith), b)) ∙ sym b)
      (λ b. test (ltb e limit) (λ x. test (ltb g limit)
      (λ y. (rw (square_at (λ e g. bit (T e g)) e g (ltb-true e limit x) (ltb-true g limit y), b)) ∙ sym b)
      (λ y. (rw (square_past (λ e g. bit (T e g)) e g (λ _ l. absurd (omega (arith, tests))))) ∙ sym b))
      (λ x. (rw (square_past (λ e g. bit (T e g)) e g (λ l _. absurd (omega (arith, tests))))) ∙ sym b)))

  pub holds_bits : Bits t
  holds_bits = is ∙ tab_ext limit (λ e. tab limit (λ g. bit (T e g))) (λ e. tab limit (λ g. bit (occurs_at t e g)))
      (λ e _. tab_ext limit (λ g. bit (T e g)) (λ g. bit (occurs_at t e g)) (λ g _. ap bit (sym (holds e g))))

  pub holds_within : Within m (occurs_at t)
  holds_within = record { row = λ e g b. W.row e g (sym (holds e g) ∙ b); col = λ e g b. W.col e g (sym (holds e g) ∙ b) }

  pub holds_alike : Alike (occurs_at t) T
  holds_alike = record { there = there; back = back }
    where
      there : {e g : ℕ} → Reaches (occurs_at t) e g → Reaches T e g
      there here = here
      there {e} (step f b r) = step f (sym (holds e f) ∙ b) (there r)

      back : {e g : ℕ} → Reaches T e g → Reaches (occurs_at t) e g
      back here = here
      back {e} (step f b r) = step f (holds e f ∙ b) (back r)

-- needs are between equations alone
pub needs_within : (m : ℕ) (leading : Rel) (partner : ℕ → ℕ) → Within m (needs_at m leading partner)
needs_within m leading partner = record {
  row = λ f g t. ltb-true f m (and_left (ltb f m) (ltb g m && (not (eqb f g) && leading f (partner g))) t);
  col = λ f g t. ltb-true g m (and_left (ltb g m) (not (eqb f g) && leading f (partner g))
      (and_right (ltb f m) (ltb g m && (not (eqb f g) && leading f (partner g))) t));
}

-- one more equation let through
pub through_next : (m : ℕ) (R : Rel) (k : ℕ) (t u : List (List ℕ)) → t ≡ square (λ e g. bit (ways m R k e g)) → u ≡ square (through_code t k) → k < limit
    → u ≡ square (λ e g. bit (ways m R (k + 1) e g))
through_next m R k t u p q l = rw (add-one k) (q ∙ through_bits (ways m R k) t k p l)

-- all let through
pub through_end : {m : ℕ} {R : Rel} → Within m R → m ≤ limit → {t : List (List ℕ)} → t ≡ square (λ e g. bit (ways m R m e g)) → ReachTable m R t
through_end {m} {R} W few {t} is = record {
  bits = holds_bits C few is;
  row = λ e g b. C.row e g (sym (holds C few is e g) ∙ b);
  col = λ e g b. C.col e g (sym (holds C few is e g) ∙ b);
  only = λ e g b. ways_sound m R W m e g (sym (holds C few is e g) ∙ b);
  all = λ e g h l r. holds C few is e g ∙ ways_complete m R W h r;
}
  where
    C : Within m (ways m R m)
    C = (ways_closed m R W).within

-- a table of what is reached is closed, and reaches what it is the table of
module _ {m : ℕ} {R : Rel} {t : List (List ℕ)} (X : ReachTable m R t) where
  pub table_closed : Closed m (occurs_at t)
  table_closed = record {
    within = record { row = X.row; col = X.col };
    self = λ e h. X.all e e h h here;
    onward = λ e f g a b. X.all e g (X.row e f a) (X.col f g b) (onward (X.only e f a) (X.only f g b));
  }

  pub table_alike : Within m R → Alike (occurs_at t) R
  table_alike W = record { there = there; back = back }
    where
      there : {e g : ℕ} → Reaches (occurs_at t) e g → Reaches R e g
      there here = here
      there {e} (step f b r) = onward (X.only e f b) (there r)

      back : {e g : ℕ} → Reaches R e g → Reaches (occurs_at t) e g
      back here = here
      back {e} (step f b r) = step f (X.all e f (W.row e f b) (W.col e f b) (step f b here)) (back r)

-- there is one table of what is reached
pub one_table : {m : ℕ} {R : Rel} {t u : List (List ℕ)} → ReachTable m R t → ReachTable m R u → t ≡ u
one_table {m} {R} {t} {u} X Y = X.bits
    ∙ tab_ext limit (λ e. tab limit (λ g. bit (occurs_at t e g))) (λ e. tab limit (λ g. bit (occurs_at u e g)))
    (λ e _. tab_ext limit (λ g. bit (occurs_at t e g)) (λ g. bit (occurs_at u e g)) (λ g _. ap bit (same_test (from t u X Y e g) (from u t Y X e g))))
    ∙ sym Y.bits
  where
    from : (t u : List (List ℕ)) → ReachTable m R t → ReachTable m R u → (e g : ℕ) → occurs_at t e g ≡ true → occurs_at u e g ≡ true
    from t u X Y e g b = Y.all e g (X.row e g b) (X.col e g b) (X.only e g b)
