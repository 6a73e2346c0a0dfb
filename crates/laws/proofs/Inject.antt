-- The weighted injection law: what is mapped one to one into places of at least its weight has at most their sum.
-- Induction on the number of what is mapped: the last one's place is left out for the others.
use mathlib.Core.Path.{◌≡◌}
use mathlib.Core.Bool.{Bool, true, ◌&&◌}
use mathlib.Core.Logic.{◌⊎◌, inl, inr}
use Prim.Native.Nat.{ℕ, zero, suc, ◌<◌, ◌≤◌}
use native.Mathlib.Omega.{arith}
use Rattle.laws.specs.Count.{bit, sum, count}
use Rattle.laws.proofs.Tests.{test, either, given, clash, and_left, and_right, and_both}
use Rattle.laws.proofs.Search.{seek}
use Rattle.laws.proofs.Sum.{without, without_other, sum_without, bit_true, bit_false}

pub inject : (m n : ℕ) (f g : ℕ → ℕ) (R : ℕ → ℕ → Type 0)
    → ((i i' j : ℕ) → R i j → R i' j → i ≡ i')
    → ((i : ℕ) → i < m → (f i ≡ 0) ⊎ ((j : ℕ) × (j < n) × R i j × (f i ≤ g j)))
    → sum m f ≤ sum n g
inject zero n f g R one to = omega arith
inject (suc m) n f g R one to =
    either (to m (omega arith))
    (λ z. let r = inject m n f g R one (λ i h. to i (omega arith)) in omega arith)
    (λ (j, h, r, l).
    let rest = inject m n f (without j g) R one (λ i b. apart j r i b (to i (omega arith))) in
    let all = sum_without n g j h in omega arith)
  where
    apart : (j : ℕ) → R m j → (i : ℕ) → i < m → (f i ≡ 0) ⊎ ((k : ℕ) × (k < n) × R i k × (f i ≤ g k))
        → (f i ≡ 0) ⊎ ((k : ℕ) × (k < n) × R i k × (f i ≤ without j g k))
    apart j r i b s = either s inl
        (λ (k, h, q, l). inr (k, h, q, rw (without_other j g k (λ e. let z : i ≡ m = one i m j (rw e at q) r in absurd (omega arith))) l))

-- what an injection of the i < m with p i into the j < n with q j shows
module _ (m n : ℕ) (p q : ℕ → Bool) (R : ℕ → ℕ → Type 0) (one : (i i' j : ℕ) → R i j → R i' j → i ≡ i')
    (to : (i : ℕ) → i < m → p i ≡ true → (j : ℕ) × (j < n) × R i j × (q j ≡ true)) where
  pub count_inject : count m p ≤ count n q
  count_inject = inject m n (λ i. bit (p i)) (λ j. bit (q j)) R one
      (λ i h. test (p i)
      (λ t. given (to i h t) (λ (j, b, r, e). inr (j, b, r, rw (t, e) (omega arith))))
      (λ f. inl (bit_false f)))

  -- a member of q that is met by none makes the count strictly smaller
  pub count_misses : (k : ℕ) → k < n → q k ≡ true → ((i : ℕ) → i < m → p i ≡ true → R i k → ⊥) → count m p < count n q
  count_misses k b e miss =
      let all = sum_without n (λ j. bit (q j)) k b in
      let one_more = bit_true e in
      let rest = inject m n (λ i. bit (p i)) (without k (λ j. bit (q j))) R one (λ i h. test (p i) (λ t. given (to i h t) (λ w. inr (away i h t w))) (λ f. inl (bit_false f))) in
      omega arith
    where
      away : (i : ℕ) → i < m → p i ≡ true → ((j : ℕ) × (j < n) × R i j × (q j ≡ true))
          → (j : ℕ) × (j < n) × R i j × (bit (p i) ≤ without k (λ x. bit (q x)) j)
      away i h t (j, c, r, f) = (j, c, r, rw (without_other k (λ x. bit (q x)) j (λ x. miss i h t (rw x at r))) (rw (t, f) (omega arith)))

-- a one-to-one map of a finite decidable set into itself meets every member
pub onto : (n : ℕ) (p : ℕ → Bool) (R : ℕ → ℕ → Bool) → ((i i' j : ℕ) → R i j ≡ true → R i' j ≡ true → i ≡ i')
    → ((i : ℕ) → i < n → p i ≡ true → (j : ℕ) × (j < n) × (R i j ≡ true) × (p j ≡ true))
    → (k : ℕ) → k < n → p k ≡ true → (i : ℕ) × (i < n) × (p i ≡ true) × (R i k ≡ true)
onto n p R one to k h e =
    either (seek n (λ i. p i && R i k))
    (λ (i, b, t, l). (i, b, and_left (p i) (R i k) t, and_right (p i) (R i k) t))
    (λ none.
    let z = count_misses n n p p (λ i j. R i j ≡ true) one to k h e (λ i b t r. clash (and_both t r) (none i b)) in
    absurd (omega arith))
