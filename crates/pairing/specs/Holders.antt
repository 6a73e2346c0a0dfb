-- A pairing as the code has it: for each unknown the equation that holds it, or none. And what one search does to it.
use Rattle.std.specs.Prelude.{◌≡◌, Bool, true, false, Result, Ok, Err, List, ◌⊎◌, ℕ, suc, ◌-◌, ◌<◌, ◌≤◌, eqb}
use Rattle.laws.specs.Marks.{marked}
use Rattle.table.specs.Model.{limit}
use Rattle.table.specs.Number.{equation_at, unknown_number}
use Rattle.std.specs.declared.option.Option.{Option}
use Rattle.table.specs.declared.number.Equation.{Equation}
use Rattle.pairing.specs.Pairing.{Rel, Pairing, LeftOver}
use Rattle.pairing.specs.declared.search.Gain.{Gain}

-- the number of the equation that holds unknown u, or 0
abbrev pub holder : List (Option Equation) → ℕ → ℕ
holder h u = equation_at h u

-- equation e holds unknown u
abbrev pub held : List (Option Equation) → Rel
held h e u = eqb (holder h u) (suc e)

-- equation e holds something
abbrev pub HoldsSome : List (Option Equation) → ℕ → Type 0
HoldsSome h e = (u : ℕ) × (held h e u ≡ true)

-- e is asked when f searches: f itself, or the holder of an unknown that occurs in one that is asked
pub data Reach (edge M : Rel) (f : ℕ) : ℕ → Type 0 where
  start : Reach edge M f f
  step : {a e : ℕ} (u : ℕ) → Reach edge M f a → edge a u ≡ true → M e u ≡ true → Reach edge M f e

-- a search that found: a pairing again, in which f and all who held something hold something, and what those asked before held they hold still
pub record Found (m n : ℕ) (edge : Rel) (f : ℕ) (asked : List Bool) (before after : List (Option Equation)) : Type 0 where
  pub ok : Pairing m n edge (held after)
  pub gained : HoldsSome after f
  pub kept : (e : ℕ) → HoldsSome before e → HoldsSome after e
  pub none_else : (e : ℕ) → HoldsSome after e → (e ≡ f) ⊎ HoldsSome before e
  pub untouched : (e u : ℕ) → marked asked e ≡ true → held before e u ≡ true → held after e u ≡ true

-- a search that found nothing: f was asked; whoever was newly asked is reached from f, and all its unknowns are held by equations that were asked
pub record Nothing (n : ℕ) (edge : Rel) (f : ℕ) (before after : List Bool) (holders : List (Option Equation)) : Type 0 where
  pub self : marked after f ≡ true
  pub more : (e : ℕ) → marked before e ≡ true → marked after e ≡ true
  pub reached : (e : ℕ) → marked after e ≡ true → (marked before e ≡ true) ⊎ Reach edge (held holders) f e
  pub closed : (e u : ℕ) → marked after e ≡ true → (marked before e ≡ true → ⊥) → u < n → edge e u ≡ true
      → (g : ℕ) × (marked after g ≡ true) × (held holders g u ≡ true)

-- what a search needs: within the limits, a pairing, and an asker that holds nothing and was not asked yet
pub record Asking (m n : ℕ) (edge : Rel) (f : ℕ) (asked : List Bool) (holders : List (Option Equation)) : Type 0 where
  pub equations : m ≤ limit
  pub unknowns : n ≤ limit
  pub asker : f < m
  pub fresh : marked asked f ≡ false
  pub free : LeftOver (held holders) f
  pub ok : Pairing m n edge (held holders)

-- what a search hands back: the unknown that the asker got, and the holders; or who was asked in vain
abbrev pub Searched : ℕ → ℕ → Rel → ℕ → List Bool → List (Option Equation) → Result Gain (List Bool) → Type 0
Searched m n edge f asked holders (Ok gain) = Found m n edge f asked holders gain.holders × (held gain.holders f (unknown_number gain.got - 1) ≡ true)
Searched m n edge f asked holders (Err asked') = Nothing n edge f asked asked' holders
