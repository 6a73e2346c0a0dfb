-- Demand 3: the unknowns that some equations together contain.
use Rattle.std.specs.Prelude.{Bool, false, ◌||◌, List, [], ◌∷◌, ℕ}
use Rattle.laws.specs.Count.{count}
use Rattle.pairing.specs.Pairing.{Rel}

-- the unknown occurs in an equation of the list
abbrev pub contained : Rel → List ℕ → ℕ → Bool
contained edge [] u = false
contained edge (e ∷ l) u = edge e u || contained edge l u

-- how many of n unknowns the equations of the list together contain
abbrev pub unknowns_in : ℕ → Rel → List ℕ → ℕ
unknowns_in n edge l = count n (contained edge l)
