-- What the library says of a list's first n numbers, by place: their sum, and the largest of them.
use mathlib.Core.Path.{◌≡◌, refl, ◌∙◌}
use mathlib.Core.List.{List}
use Prim.Native.Nat.{ℕ, zero, suc, ◌+◌, ◌≤◌, max}
use native.Mathlib.Numerals.{add-one}
use native.Mathlib.Nat.{max_comm}
use native.Mathlib.Omega.{arith}
use lib.ListN.{length, take}
use Rattle.std.specs.List.{fold, sum_by}
use Rattle.std.proofs.lemmas.List.Sums.{fold_more, sum_by_more}
use Rattle.laws.specs.Count.{sum}
use Rattle.laws.specs.Tab.{number_at}
use Rattle.counts.specs.Fit.{largest}

pub largest_first : (n : ℕ) (l : List ℕ) → n ≤ length l → fold max 0 (take n l) ≡ largest n (number_at l)
largest_first zero l h = refl
largest_first (suc n) l h =
    let more : fold max 0 (take (n + 1) l) ≡ max (fold max 0 (take n l)) (number_at l n) = fold_more max 0 l n 0 h in
    (rw (add-one n) at more) ∙ rw (largest_first n l (omega arith)) (max_comm (largest n (number_at l)) (number_at l n))

pub sum_first : (n : ℕ) (l : List ℕ) → n ≤ length l → sum_by (λ x. x) (take n l) ≡ sum n (number_at l)
sum_first zero l h = refl
sum_first (suc n) l h =
    let more : sum_by (λ x. x) (take (n + 1) l) ≡ sum_by (λ x. x) (take n l) + number_at l n = sum_by_more (λ x. x) l n 0 h in
    let r = sum_first n l (omega arith) in
    (rw (add-one n) at more) ∙ omega arith
