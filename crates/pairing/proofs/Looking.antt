-- The second pass of a search: what holds of the unknowns passed so far.
use mathlib.Core.Path.{◌≡◌}
use mathlib.Core.Bool.{Bool, true}
use mathlib.Core.List.{List}
use Prim.Native.Nat.{ℕ, ◌-◌, ◌<◌, ◌≤◌}
use Rattle.laws.specs.Marks.{marked}
use Rattle.std.specs.declared.option.Option.{Option}
use Rattle.table.specs.declared.number.Equation.{Equation}
use Rattle.pairing.specs.Pairing.{Rel}
use Rattle.pairing.specs.Holders.{holder}

-- the unknowns of f from a place on and below u have holders that were asked
pub record Passed (edge : Rel) (f from : ℕ) (h : List (Option Equation)) (a : List Bool) (u : ℕ) : Type 0 where
  pub below : (v : ℕ) → from ≤ v → v < u → edge f v ≡ true → marked a (holder h v - 1) ≡ true
