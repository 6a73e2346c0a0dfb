-- Lists given by a function of the place.
use Rattle.std.specs.Prelude.{Bool, true, false, List, [], ◌∷◌, ℕ, zero, suc, ltb, get_or}

-- f 0, .., f (n - 1)
unfoldable pub tab : {A : Type 0} → ℕ → (ℕ → A) → List A
tab zero f = []
tab (suc n) f = f 0 ∷ tab n (λ k. f (suc k))

-- the number at a place; past the end 0
abbrev pub number_at : List ℕ → ℕ → ℕ
number_at l i = get_or l i 0

-- one of two, by a test
abbrev pub pick : {A : Type 0} → Bool → A → A → A
pick true a b = a
pick false a b = b

-- f below i, g from i on: a list that a loop has filled as far as i
abbrev pub upto : {A : Type 0} → ℕ → (ℕ → A) → (ℕ → A) → ℕ → A
upto i f g k = pick (ltb k i) (f k) (g k)
