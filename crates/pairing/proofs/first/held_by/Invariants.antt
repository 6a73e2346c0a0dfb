-- `first::held_by` passes the unknowns in turn: none passed is held by the equation.
use mathlib.Core.Path.{◌≡◌}
use mathlib.Core.Bool.{true}
use Prim.Native.Nat.{ℕ, ◌-◌, ◌<◌}
use Rattle.table.specs.Number.{equation_number}
use Rattle.pairing.specs.Holders.{held}
use Rattle.pairing.proofs.first.held_by.Given as goal

abbrev pub invariant-loop-u : goal.invariant-loop-u
invariant-loop-u l = (v : ℕ) → v < l.u → held l.holders (equation_number l.e - 1) v ≡ true → ⊥
