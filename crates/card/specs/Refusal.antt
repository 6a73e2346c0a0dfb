-- Document 01, "The card": its refusals and their numbers, and the numbers that an answer hands back.
-- Types that the code declares: Refusal, with a case for each refusal of the card; Refused, a refusal and its place; Size, the E and U of a good card.
use Rattle.std.specs.Prelude.{ℕ, Result, Ok, Err}
use Rattle.card.specs.declared.refusal.Refusal.{Refusal}
use Rattle.card.specs.declared.refusal.Refusal.TheVariants.{Shape, Name, Limits, OutOfRange, NotAfter, EndNumber, TableRoom, CardRoom, TableLength, Code}
use Rattle.card.specs.declared.refusal.Refused.{Refused}
use Rattle.card.specs.declared.Size.{Size}

abbrev pub refusal_number : Refusal → ℕ
refusal_number TableLength = 2
refusal_number Code = 4
refusal_number Shape = 11
refusal_number Name = 12
refusal_number Limits = 13
refusal_number OutOfRange = 14
refusal_number NotAfter = 15
refusal_number EndNumber = 16
refusal_number TableRoom = 17
refusal_number CardRoom = 18

abbrev pub refused_at : Refusal → ℕ → Refused
refused_at refusal place = record { refusal = refusal; place = place }

-- number and place, "with number and place 0" where nothing is refused
abbrev pub refused_number : {A : Type 0} → Result A Refused → ℕ
refused_number (Ok a) = 0
refused_number (Err r) = refusal_number r.refusal

abbrev pub refused_place : {A : Type 0} → Result A Refused → ℕ
refused_place (Ok a) = 0
refused_place (Err r) = r.place

-- the reader's E and U, "both 0 when refused"
abbrev pub read_equations : Result Size Refused → ℕ
read_equations (Ok size) = size.equations
read_equations (Err r) = 0

abbrev pub read_unknowns : Result Size Refused → ℕ
read_unknowns (Ok size) = size.unknowns
read_unknowns (Err r) = 0

-- the writer's "length written (0 when refused)"
abbrev pub written_length : Result ℕ Refused → ℕ
written_length (Ok length) = length
written_length (Err r) = 0
