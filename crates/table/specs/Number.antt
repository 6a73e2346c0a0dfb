-- Equation numbers and unknown numbers as the code has them: each kind a type of its own, counted from 1; `None` where there is none.
use Rattle.std.specs.Prelude.{List, ℕ, get_or}
use Rattle.std.specs.Int.NonZero.{non_zero_u8_get}
use Rattle.std.specs.declared.option.Option.{Option}
use Rattle.std.specs.declared.option.Option.TheVariants.{None, Some}
use Rattle.table.specs.declared.number.Equation.{Equation}
use Rattle.table.specs.declared.number.Unknown.{Unknown}

abbrev pub equation_number : Equation → ℕ
equation_number e = non_zero_u8_get e.0

abbrev pub unknown_number : Unknown → ℕ
unknown_number u = non_zero_u8_get u.0

-- a number as it is handed out: 0 where there is none
abbrev pub or_zero : {A : Type 0} → (A → ℕ) → Option A → ℕ
or_zero number None = 0
or_zero number (Some x) = number x

-- the number of the equation at a place of a list; 0 where there is none, and past the end
abbrev pub equation_at : List (Option Equation) → ℕ → ℕ
equation_at l i = or_zero equation_number (get_or l i None)

-- the number of the unknown at a place of a list; 0 where there is none, and past the end
abbrev pub unknown_at : List (Option Unknown) → ℕ → ℕ
unknown_at l i = or_zero unknown_number (get_or l i None)
