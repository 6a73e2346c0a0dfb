-- What the functions hand back: the definitions of Pairing and First at the lists of the code.
use Rattle.std.specs.Prelude.{◌≡◌, Bool, true, List, ◌↔◌, ℕ, ◌-◌, ◌<◌, ◌≤◌}
use Rattle.laws.specs.Marks.{marked}
use Rattle.table.specs.Number.{unknown_at}
use Rattle.std.specs.declared.option.Option.{Option}
use Rattle.table.specs.declared.number.Unknown.{Unknown}
use Rattle.pairing.specs.Pairing.{Rel, Rank, Surplus, Unfixed}
use Rattle.pairing.specs.First.{First}

-- the rank is that of a largest pairing; the equations marked are the surplus ones, the unknowns marked the unfixed ones, and nothing else is marked
pub record LeftIs (m n : ℕ) (edge : Rel) (rank : ℕ) (surplus unfixed : List Bool) : Type 0 where
  pub ranked : Rank m n edge rank
  pub equations : (e : ℕ) → (marked surplus e ≡ true) ↔ ((e < m) × Surplus m n edge e)
  pub unknowns : (u : ℕ) → (marked unfixed u ≡ true) ↔ ((u < n) × Unfixed m n edge u)

-- the number of equation e's partner, or 0
abbrev pub partner_of : List (Option Unknown) → ℕ → ℕ
partner_of l e = unknown_at l e

-- the partners of n equations, numbered from 1: those of the first full pairing, and 0 beyond the last equation
pub record FirstIs (n : ℕ) (edge : Rel) (l : List (Option Unknown)) : Type 0 where
  pub first : First n n edge (λ e. partner_of l e - 1)
  pub numbered : (e : ℕ) → e < n → 1 ≤ partner_of l e
  pub beyond : (e : ℕ) → n ≤ e → partner_of l e ≡ 0
