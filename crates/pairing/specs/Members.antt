-- The members of a set below a bound, as an ascending list.
use Rattle.std.specs.Prelude.{Bool, List, [], ◌∷◌, ◌++◌, ℕ, zero, suc}
use Rattle.laws.specs.Tab.{pick}

-- the i < n with p i, ascending
unfoldable pub members : ℕ → (ℕ → Bool) → List ℕ
members zero p = []
members (suc n) p = members n p ++ pick (p n) (n ∷ []) []
