-- Sums and counts under pointwise change, and with one place left out.
use mathlib.Core.Path.{◌≡◌, refl, sym}
use mathlib.Core.Bool.{Bool, true, false}
use Prim.Native.Nat.{ℕ, zero, suc, ◌+◌, ◌*◌, ◌<◌, ◌≤◌}
use native.Mathlib.Nat.{suc-mul}
use native.Mathlib.Numerals.{add-one}
use native.Mathlib.Omega.{arith}
use lib.Dec.{eqb}
use borrow.Author.Tests.{eqb-true, eqb-false, eq-eqb, ne_eqb}
use Rattle.laws.specs.Count.{bit, sum, count}
use Rattle.laws.specs.Tab.{pick}
use Rattle.laws.proofs.Tests.{test}

pub sum_same : (n : ℕ) (f g : ℕ → ℕ) → ((i : ℕ) → i < n → f i ≡ g i) → sum n f ≡ sum n g
sum_same zero f g h = refl
sum_same (suc n) f g h = let e = h n (omega arith) in let r = sum_same n f g (λ i b. h i (omega arith)) in omega arith

pub sum_mono : (n : ℕ) (f g : ℕ → ℕ) → ((i : ℕ) → i < n → f i ≤ g i) → sum n f ≤ sum n g
sum_mono zero f g h = omega arith
sum_mono (suc n) f g h = let e = h n (omega arith) in let r = sum_mono n f g (λ i b. h i (omega arith)) in omega arith

pub sum_add : (n : ℕ) (f g : ℕ → ℕ) → sum n (λ i. f i + g i) ≡ sum n f + sum n g
sum_add zero f g = refl
sum_add (suc n) f g = let r = sum_add n f g in omega arith

-- each term is at most k
pub sum_bound : (n k : ℕ) (f : ℕ → ℕ) → ((i : ℕ) → i < n → f i ≤ k) → sum n f ≤ n * k
sum_bound zero k f h = omega arith
sum_bound (suc n) k f h = let e = h n (omega arith) in let r = sum_bound n k f (λ i b. h i (omega arith)) in rw (suc-mul n k) (omega arith)

pub bit_true : {b : Bool} → b ≡ true → bit b ≡ 1
bit_true e = cc

pub bit_false : {b : Bool} → b ≡ false → bit b ≡ 0
bit_false e = cc

-- f with 0 at place j
abbrev pub without : ℕ → (ℕ → ℕ) → ℕ → ℕ
without j f i = pick (eqb i j) 0 (f i)

pub without_other : (j : ℕ) (f : ℕ → ℕ) (i : ℕ) → (i ≡ j → ⊥) → without j f i ≡ f i
without_other j f i ne = rw (ne_eqb i j ne)

pub sum_without : (n : ℕ) (f : ℕ → ℕ) (j : ℕ) → j < n → sum n f ≡ f j + sum n (without j f)
sum_without zero f j h = absurd (omega arith)
sum_without (suc n) f j h = test (eqb j n) (λ t. at_last (eqb-true j n t)) (λ t. below (eqb-false j n t) (λ b. sum_without n f j b))
  where
    at_last : j ≡ n → sum (suc n) f ≡ f j + sum (suc n) (without j f)
    at_last e = rw e (rw (eq-eqb n n refl)
        (let r = sum_same n f (without n f) (λ i b. sym (without_other n f i (λ q. absurd (omega arith)))) in omega arith))

    below : (j ≡ n → ⊥) → (j < n → sum n f ≡ f j + sum n (without j f)) → sum (suc n) f ≡ f j + sum (suc n) (without j f)
    below ne go =
        let r = go (omega arith) in
        let w = without_other j f n (λ q. ne (sym q)) in
        omega arith

pub sum_at_most : (n : ℕ) (f : ℕ → ℕ) (j : ℕ) → j < n → f j ≤ sum n f
sum_at_most n f j h = let e = sum_without n f j h in omega arith

-- one more place: it counts or it does not
pub count_yes : (n : ℕ) (p : ℕ → Bool) → p n ≡ true → count (n + 1) p ≡ count n p + 1
count_yes n p t = rw (add-one n) (rw t (omega arith))

pub count_no : (n : ℕ) (p : ℕ → Bool) → p n ≡ false → count (n + 1) p ≡ count n p
count_no n p f = rw (add-one n) (rw f (omega arith))
