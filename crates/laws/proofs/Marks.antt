-- Laws of marks: what setting one changes.
use mathlib.Core.Path.{◌≡◌, refl, sym, ◌∙◌}
use mathlib.Core.Bool.{Bool, true, false, not}
use mathlib.Core.List.{List, [], ◌∷◌}
use mathlib.Core.Logic.{◌⊎◌, inl, inr}
use Prim.Native.Nat.{ℕ, zero, suc, ◌<◌, ◌≤◌}
use native.Mathlib.Omega.{arith}
use lib.Dec.{eqb}
use lib.ListN.{length, set, length-set}
use lib.Seq.{get_or-set_same, get_or-set_other}
use borrow.Author.Tests.{eqb-true, eqb-false}
use Rattle.laws.specs.Count.{bit}
use Rattle.laws.specs.Marks.{marked, falses}
use Rattle.laws.proofs.Tests.{test, either, true≢false}

-- what is marked lies within the list
pub marked_within : (l : List Bool) (i : ℕ) → marked l i ≡ true → i < length l
marked_within [] i t = absurd (true≢false (sym t))
marked_within (b ∷ l) zero t = omega arith
marked_within (b ∷ l) (suc i) t = let r = marked_within l i t in omega arith

-- marking a place marks that place, keeps every mark and adds no other
pub mark_here : (l : List Bool) (i : ℕ) → i < length l → marked (set l i true) i ≡ true
mark_here l i h = get_or-set_same l i true false h

pub mark_other : (l : List Bool) (i k : ℕ) → (k ≡ i → ⊥) → marked (set l i true) k ≡ marked l k
mark_other l i k ne = get_or-set_other l i k true false ne

pub mark_keeps : (l : List Bool) (i k : ℕ) → marked l k ≡ true → marked (set l i true) k ≡ true
mark_keeps l i k t =
    test (eqb k i) (λ e. rw (eqb-true k i e) (mark_here l i (rw (eqb-true k i e) at (marked_within l k t))))
    (λ e. mark_other l i k (eqb-false k i e) ∙ t)

pub mark_only : (l : List Bool) (i k : ℕ) → marked (set l i true) k ≡ true → (k ≡ i) ⊎ (marked l k ≡ true)
mark_only l i k t = test (eqb k i) (λ e. inl (eqb-true k i e)) (λ e. let o = mark_other l i k (eqb-false k i e) in inr (cc))

-- marking a place that was not marked lowers the number of those that are not, by one
pub mark_falses : (l : List Bool) (i : ℕ) → i < length l → marked l i ≡ false → suc (falses (set l i true)) ≡ falses l
mark_falses [] i h f = absurd (omega arith)
mark_falses (b ∷ l) zero h f = rw f (omega arith)
mark_falses (b ∷ l) (suc i) h f = let r = mark_falses l i (omega arith) f in omega arith

-- the more is marked, the fewer are not
pub falses_fewer : (a b : List Bool) → length a ≡ length b → ((i : ℕ) → marked a i ≡ true → marked b i ≡ true) → falses b ≤ falses a
falses_fewer [] [] e h = omega arith
falses_fewer [] (y ∷ b) e h = absurd (omega arith)
falses_fewer (x ∷ a) [] e h = absurd (omega arith)
falses_fewer (x ∷ a) (y ∷ b) e h =
    let r = falses_fewer a b (omega arith) (λ i t. h (suc i) t) in
    let l = not_fewer x y (h 0) in
    omega arith
  where
    not_fewer : (x y : Bool) → (x ≡ true → y ≡ true) → bit (not y) ≤ bit (not x)
    not_fewer true y g = rw (g refl) (omega arith)
    not_fewer false true g = omega arith
    not_fewer false false g = omega arith

-- and fewer still where one was marked anew
pub falses_fall : (a b : List Bool) → length a ≡ length b → ((i : ℕ) → marked a i ≡ true → marked b i ≡ true) → (k : ℕ) → marked a k ≡ false → marked b k ≡ true
    → falses b < falses a
falses_fall a b e h k f t =
    let l = marked_within b k t in
    let one = mark_falses a k (omega arith) f in
    let rest = falses_fewer (set a k true) b (length-set a k true ∙ e) (λ i m. either (mark_only a k i m) (λ q. rw q t) (h i)) in
    omega arith
