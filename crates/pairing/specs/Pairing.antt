-- Document 01, "Solvable or singular", and demand 3.
-- Equations and unknowns are spoken of by their places, counted from 0: document 01's numbers are one more.
-- m is the number of equations, n that of unknowns, `edge e u` says that unknown u occurs in equation e.
use Rattle.std.specs.Prelude.{◌≡◌, Bool, true, List, ℕ, ◌<◌, ◌≤◌, length, get_or}
use Rattle.laws.specs.Count.{count, any}

abbrev pub Rel : Type 0
Rel = ℕ → ℕ → Bool

-- equations and unknowns exchanged
abbrev pub turn : Rel → Rel
turn M u e = M e u

-- a pairing: a set of pairs (equation, unknown) where the unknown occurs in the equation and no equation or unknown stands twice
pub record Pairing (m n : ℕ) (edge M : Rel) : Type 0 where
  pub row : (e u : ℕ) → M e u ≡ true → e < m
  pub col : (e u : ℕ) → M e u ≡ true → u < n
  pub fits : (e u : ℕ) → M e u ≡ true → edge e u ≡ true
  pub one_u : (e u v : ℕ) → M e u ≡ true → M e v ≡ true → u ≡ v
  pub one_e : (e f u : ℕ) → M e u ≡ true → M f u ≡ true → e ≡ f

-- how many pairs it has: the equations that have one
abbrev pub size : ℕ → ℕ → Rel → ℕ
size m n M = count m (λ e. any n (M e))

-- a largest pairing
pub record Largest (m n : ℕ) (edge M : Rel) : Type 0 where
  pub ok : Pairing m n edge M
  pub top : (Q : Rel) → Pairing m n edge Q → size m n Q ≤ size m n M

-- the rank is the size of a largest pairing
pub record Rank (m n : ℕ) (edge : Rel) (k : ℕ) : Type 0 where
  pub pairs : Rel
  pub largest : Largest m n edge pairs
  pub counts : size m n pairs ≡ k

-- the pairing takes in every equation
pub record Full (m n : ℕ) (edge M : Rel) : Type 0 where
  pub ok : Pairing m n edge M
  pub every : (e : ℕ) → e < m → (u : ℕ) × (M e u ≡ true)

-- some pairing takes in all equations and all unknowns
pub record Solvable (m n : ℕ) (edge : Rel) : Type 0 where
  pub pairs : Rel
  pub equations : Full m n edge pairs
  pub unknowns : (u : ℕ) → u < n → (e : ℕ) × (pairs e u ≡ true)

-- the pairing leaves the equation over; an unknown is left over by `turn M`
abbrev pub LeftOver : Rel → ℕ → Type 0
LeftOver M e = (u : ℕ) → M e u ≡ true → ⊥

-- at least one largest pairing leaves the equation over
pub record Surplus (m n : ℕ) (edge : Rel) (e : ℕ) : Type 0 where
  pub pairs : Rel
  pub largest : Largest m n edge pairs
  pub over : LeftOver pairs e

-- at least one largest pairing leaves the unknown over
pub record Unfixed (m n : ℕ) (edge : Rel) (u : ℕ) : Type 0 where
  pub pairs : Rel
  pub largest : Largest m n edge pairs
  pub over : LeftOver (turn pairs) u

-- the list of those below n that have P: no other, each once, ascending
pub record Listed (n : ℕ) (P : ℕ → Type 0) (l : List ℕ) : Type 0 where
  pub only : (i : ℕ) → i < length l → (get_or l i 0 < n) × P (get_or l i 0)
  pub all : (x : ℕ) → x < n → P x → (i : ℕ) × (i < length l) × (get_or l i 0 ≡ x)
  pub ascends : (i j : ℕ) → i < j → j < length l → get_or l i 0 < get_or l j 0
