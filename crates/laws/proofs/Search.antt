-- Finite search: below a bound a test holds somewhere or nowhere.
use mathlib.Core.Path.{◌≡◌, refl}
use mathlib.Core.Bool.{Bool, true, false}
use mathlib.Core.Logic.{◌⊎◌, inl, inr}
use Prim.Native.Nat.{ℕ, zero, suc, ◌<◌}
use native.Mathlib.Omega.{arith}
use lib.Dec.{eqb}
use borrow.Author.Tests.{eqb-true}
use Rattle.laws.specs.Count.{any}
use Rattle.laws.proofs.Tests.{test, either, tests, or_left, or_right, clash}

-- the least i below n that has p i, or a refutation
pub seek : (n : ℕ) (p : ℕ → Bool)
    → ((i : ℕ) × (i < n) × (p i ≡ true) × ((k : ℕ) → k < i → p k ≡ false)) ⊎ ((i : ℕ) → i < n → p i ≡ false)
seek zero p = inr (λ i h. absurd (omega arith))
seek (suc n) p =
    either (seek n p) (λ (i, h, t, l). inl (i, omega arith, t, l))
    (λ none. test (p n) (λ t. inl (n, omega arith, t, none)) (λ f. inr (λ i h. last none f i h)))
  where
    last : ((i : ℕ) → i < n → p i ≡ false) → p n ≡ false → (i : ℕ) → i < suc n → p i ≡ false
    last none f i h = test (eqb i n) (λ t. rw (eqb-true i n t) f) (λ t. none i (omega (arith, tests)))

pub any_here : {n : ℕ} (p : ℕ → Bool) (i : ℕ) → i < n → p i ≡ true → any n p ≡ true
any_here {n = zero} p i h t = absurd (omega arith)
any_here {n = suc n} p i h t =
    test (eqb i n) (λ e. or_left (any n p) (rw (eqb-true i n e) at t)) (λ e. or_right (p n) (any_here {n = n} p i (omega (arith, tests)) t))

pub any_where : {n : ℕ} (p : ℕ → Bool) → any n p ≡ true → (i : ℕ) × (i < n) × (p i ≡ true)
any_where {n} p t = either (seek n p) (λ (i, h, e, l). (i, h, e)) (λ none. clash t (nowhere n p none))
  where
    nowhere : (k : ℕ) (q : ℕ → Bool) → ((i : ℕ) → i < k → q i ≡ false) → any k q ≡ false
    nowhere zero q none = refl
    nowhere (suc k) q none = let a = none k (omega arith) in let b = nowhere k q (λ i h. none i (omega arith)) in cc

pub any_none : {n : ℕ} (p : ℕ → Bool) → any n p ≡ false → (i : ℕ) → i < n → p i ≡ false
any_none {n} p f i h = test (p i) (λ t. clash (any_here p i h t) f) (λ e. e)
