-- Marks: a list of Bools as a set of places.
use Rattle.std.specs.Prelude.{Bool, false, not, List, [], ◌∷◌, ℕ, ◌+◌, get_or}
use Rattle.laws.specs.Count.{bit}

-- the place is marked; past the end nothing is
abbrev pub marked : List Bool → ℕ → Bool
marked l i = get_or l i false

-- how many places are not marked
abbrev pub falses : List Bool → ℕ
falses [] = 0
falses (b ∷ l) = bit (not b) + falses l
