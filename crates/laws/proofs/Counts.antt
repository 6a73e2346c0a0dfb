-- Counts: of those that have it and those that do not, of all, and of a part.
use mathlib.Core.Path.{◌≡◌, refl, sym, ◌∙◌}
use mathlib.Core.Bool.{Bool, true, false, not}
use Prim.Native.Nat.{ℕ, zero, suc, ◌+◌, ◌<◌, ◌≤◌}
use native.Mathlib.Omega.{arith}
use Rattle.laws.specs.Count.{bit, count}
use Rattle.laws.proofs.Tests.{test, clash}
use Rattle.laws.proofs.Sum.{sum_at_most, bit_true}
use Rattle.laws.proofs.Inject.{count_inject, count_misses}

-- those that have it and those that do not are all
pub count_not : (n : ℕ) (p : ℕ → Bool) → count n p + count n (λ i. not (p i)) ≡ n
count_not zero p = refl
count_not (suc n) p =
    let r = count_not n p in
    test (p n) (λ t. rw t (omega arith)) (λ f. rw f (omega arith))

pub count_within : (n : ℕ) (p : ℕ → Bool) → count n p ≤ n
count_within n p = let e = count_not n p in omega arith

-- all have it where the count is n
pub count_all : (n : ℕ) (p : ℕ → Bool) → count n p ≡ n → (i : ℕ) → i < n → p i ≡ true
count_all n p e i h = test (p i) (λ t. t)
    (λ f.
    let all = count_not n p in
    let one = sum_at_most n (λ k. bit (not (p k))) i h in
    let this = bit_true {b = not (p i)} (rw f) in
    absurd (omega arith))

pub all_count : (n : ℕ) (p : ℕ → Bool) → ((i : ℕ) → i < n → p i ≡ true) → count n p ≡ n
all_count zero p h = refl
all_count (suc n) p h = let r = all_count n p (λ i b. h i (omega arith)) in let e = bit_true (h n (omega arith)) in omega arith

-- fewer have p where each that has it has q, and strictly fewer where one has q alone
pub count_mono : (n : ℕ) (p q : ℕ → Bool) → ((i : ℕ) → i < n → p i ≡ true → q i ≡ true) → count n p ≤ count n q
count_mono n p q f = count_inject n n p q (λ i j. i ≡ j) (λ i i' j a b. a ∙ sym b) (λ i h t. (i, h, refl, f i h t))

pub count_less : (n : ℕ) (p q : ℕ → Bool) → ((i : ℕ) → i < n → p i ≡ true → q i ≡ true)
    → (k : ℕ) → k < n → q k ≡ true → p k ≡ false → count n p < count n q
count_less n p q f k h t none = count_misses n n p q (λ i j. i ≡ j) (λ i i' j a b. a ∙ sym b) (λ i b s. (i, b, refl, f i b s)) k h t
    (λ i b s e. clash (rw e at s) none)
