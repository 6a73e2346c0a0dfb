-- What the two passes of a search over the asker's unknowns look for.
use Rattle.std.specs.Prelude.{◌≡◌, Bool, true, false, List, ℕ, suc, ◌-◌, ◌<◌, ◌≤◌}
use Rattle.laws.specs.Marks.{marked}
use Rattle.table.specs.Model.{Numbered}
use Rattle.std.specs.declared.option.Option.{Option}
use Rattle.table.specs.declared.number.Equation.{Equation}
use Rattle.pairing.specs.Pairing.{Rel}
use Rattle.pairing.specs.Holders.{holder}

-- an unknown of f that nobody holds, or 0 where there is none
pub record FreeIn (n : ℕ) (edge : Rel) (f : ℕ) (holders : List (Option Equation)) (u : ℕ) : Type 0 where
  pub hit : (u ≡ 0 → ⊥) → (u - 1 < n) × (edge f (u - 1) ≡ true) × (holder holders (u - 1) ≡ 0)
  pub none : u ≡ 0 → (v : ℕ) → v < n → edge f v ≡ true → holder holders v ≡ 0 → ⊥

-- every unknown of f is held
abbrev pub AllHeld : ℕ → Rel → ℕ → List (Option Equation) → Type 0
AllHeld n edge f holders = (v : ℕ) → v < n → edge f v ≡ true → Numbered (holder holders v)

-- the lowest unknown of f, from a place on, whose holder was not asked, or 0 where there is none
pub record NextIn (n : ℕ) (edge : Rel) (f from : ℕ) (holders : List (Option Equation)) (asked : List Bool) (u : ℕ) : Type 0 where
  pub hit : (u ≡ 0 → ⊥) → (u - 1 < n) × (edge f (u - 1) ≡ true) × (marked asked (holder holders (u - 1) - 1) ≡ false)
  pub passed : (v : ℕ) → from ≤ v → suc v < u → edge f v ≡ true → marked asked (holder holders v - 1) ≡ true
  pub none : u ≡ 0 → (v : ℕ) → from ≤ v → v < n → edge f v ≡ true → marked asked (holder holders v - 1) ≡ true
