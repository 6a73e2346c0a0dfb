-- Tests that antt computes, and what each says: of all numbers below a bound, of a list of tests.
use mathlib.Core.Path.{◌≡◌, refl}
use mathlib.Core.Bool.{Bool, true, ◌&&◌}
use mathlib.Core.List.{List, [], ◌∷◌}
use Prim.Native.Nat.{ℕ, zero, suc, ◌<◌}
use native.Mathlib.Omega.{arith}
use lib.Dec.{eqb}
use lib.ListN.{get_or}
use borrow.Author.Tests.{eqb-true}
use Rattle.laws.specs.Tab.{pick}
use Rattle.laws.proofs.Tests.{test, tests, and_left, and_right, and_both}

-- every i below n has p i
abbrev pub all : ℕ → (ℕ → Bool) → Bool
all zero p = true
all (suc n) p = p n && all n p

pub all_at : {n : ℕ} (p : ℕ → Bool) → all n p ≡ true → (i : ℕ) → i < n → p i ≡ true
all_at {n = zero} p t i h = absurd (omega arith)
all_at {n = suc n} p t i h = test (eqb i n)
    (λ e. rw (eqb-true i n e) (and_left (p n) (all n p) t))
    (λ e. all_at {n = n} p (and_right (p n) (all n p) t) i (omega (arith, tests)))

pub all_from : (n : ℕ) (p : ℕ → Bool) → ((i : ℕ) → i < n → p i ≡ true) → all n p ≡ true
all_from zero p h = refl
all_from (suc n) p h = and_both (h n (omega arith)) (all_from n p (λ i b. h i (omega arith)))

-- every i below m with every j below n
abbrev pub all2 : ℕ → ℕ → (ℕ → ℕ → Bool) → Bool
all2 m n p = all m (λ i. all n (p i))

pub all2_at : {m n : ℕ} (p : ℕ → ℕ → Bool) → all2 m n p ≡ true → (i j : ℕ) → i < m → j < n → p i j ≡ true
all2_at {m} {n} p t i j h k = all_at (p i) (all_at (λ x. all n (p x)) t i h) j k

-- where the first holds, so does the second
abbrev pub implies : Bool → Bool → Bool
implies a b = pick a b true

pub implies_at : {a b : Bool} → implies a b ≡ true → a ≡ true → b ≡ true
implies_at t h = cc

-- all of a list
abbrev pub all_true : List Bool → Bool
all_true [] = true
all_true (b ∷ bs) = b && all_true bs

pub all_true_at : (l : List Bool) → all_true l ≡ true → (i : ℕ) → get_or l i true ≡ true
all_true_at [] t i = refl
all_true_at (b ∷ bs) t zero = and_left b (all_true bs) t
all_true_at (b ∷ bs) t (suc i) = all_true_at bs (and_right b (all_true bs) t) i
