-- The largest of finitely many numbers: the least upper bound. And with it the largest order + c over an unknown's occurrences.
use mathlib.Core.Path.{◌≡◌}
use mathlib.Core.Bool.{true}
use Prim.Native.Nat.{ℕ, zero, suc, ◌+◌, ◌<◌, ◌≤◌}
use native.Mathlib.Omega.{arith}
use lib.Dec.{eqb}
use borrow.Author.Tests.{eqb-true}
use Rattle.laws.specs.Tab.{pick}
use Rattle.laws.proofs.Tests.{test, tests}
use Rattle.pairing.specs.Pairing.{Rel}
use Rattle.counts.specs.Fit.{largest, high}

pub largest_over : (n : ℕ) (f : ℕ → ℕ) (i : ℕ) → i < n → f i ≤ largest n f
largest_over zero f i h = absurd (omega arith)
largest_over (suc n) f i h =
    test (eqb i n) (λ t. rw (eqb-true i n t) (omega arith))
    (λ t. let r = largest_over n f i (omega (arith, tests)) in omega arith)

pub largest_most : (n : ℕ) (f : ℕ → ℕ) (k : ℕ) → ((i : ℕ) → i < n → f i ≤ k) → largest n f ≤ k
largest_most zero f k h = omega arith
largest_most (suc n) f k h = let a = h n (omega arith) in let r = largest_most n f k (λ i b. h i (omega arith)) in omega arith

module _ (m : ℕ) (edge : Rel) (ord : ℕ → ℕ → ℕ) (c : ℕ → ℕ) (u : ℕ) where
  pub high_over : (e : ℕ) → e < m → edge e u ≡ true → ord e u + c e ≤ high m edge ord c u
  high_over e h t =
      let r : pick (edge e u) (ord e u + c e) 0 ≤ high m edge ord c u = largest_over m (λ g. pick (edge g u) (ord g u + c g) 0) e h in
      rw t at r

  pub high_most : (k : ℕ) → ((e : ℕ) → e < m → edge e u ≡ true → ord e u + c e ≤ k) → high m edge ord c u ≤ k
  high_most k h = largest_most m (λ g. pick (edge g u) (ord g u + c g) 0) k
      (λ e b. test (edge e u) (λ t. rw t (h e b t)) (λ t. rw t (omega arith)))
