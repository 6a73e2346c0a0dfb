-- Sums, counts and finite search below a bound.
use Rattle.std.specs.Prelude.{Bool, true, false, ◌||◌, ℕ, zero, suc, ◌+◌}

abbrev pub bit : Bool → ℕ
bit true = 1
bit false = 0

-- f 0 + .. + f (n - 1)
abbrev pub sum : ℕ → (ℕ → ℕ) → ℕ
sum zero f = 0
sum (suc n) f = f n + sum n f

-- how many i below n have p i
abbrev pub count : ℕ → (ℕ → Bool) → ℕ
count n p = sum n (λ i. bit (p i))

-- some i below n has p i
abbrev pub any : ℕ → (ℕ → Bool) → Bool
any zero p = false
any (suc n) p = p n || any n p
