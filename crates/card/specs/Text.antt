-- Document 01, "The card": bytes, keys, numbers and lines.
-- A type that the code declares: Number, a number at the front of a text and how many bytes it takes.
use Rattle.std.specs.Prelude.{Option, None, Some, Bool, ◌&&◌, List, [], ◌∷◌, ℕ, zero, suc, ◌+◌, ◌-◌, ◌*◌, ◌/◌, ◌%◌, leb, ltb, eqb, drop}
use Rattle.std.specs.List.{starts_with}
use Rattle.laws.specs.Tab.{pick}
use Rattle.laws.specs.Text.{bytes}
use Rattle.card.specs.declared.text.Number.{Number}

-- the byte that ends a line, and the comma
abbrev pub LF : ℕ
LF = 10

abbrev pub comma : ℕ
comma = 44

abbrev pub rig_key : List ℕ
rig_key = bytes "rig="

abbrev pub equations_key : List ℕ
equations_key = bytes "equations="

abbrev pub unknowns_key : List ℕ
unknowns_key = bytes "unknowns="

abbrev pub occurs_key : List ℕ
occurs_key = bytes "occurs="

abbrev pub end_key : List ℕ
end_key = bytes "end="

-- the text begins with these bytes
abbrev pub begins : List ℕ → List ℕ → Bool
begins key text = starts_with eqb text key

-- a-z
abbrev pub is_letter : ℕ → Bool
is_letter b = leb 97 b && leb b 122

-- 0-9
abbrev pub is_digit : ℕ → Bool
is_digit b = leb 48 b && leb b 57

abbrev pub number : ℕ → ℕ → Number
number value took = record { value = value; took = took }

-- "Numbers have 1 to 4 digits without a leading zero, except 0 itself": the number at the front of a text and how many bytes it takes.
-- A leading 0 takes one byte; else the digits that follow, to four in all.
abbrev pub digits_of : ℕ → ℕ → ℕ → List ℕ → Number
digits_of zero value took text = number value took
digits_of (suc more) value took [] = number value took
digits_of (suc more) value took (b ∷ text) = pick (is_digit b) (digits_of more (value * 10 + (b - 48)) (took + 1) text) (number value took)

abbrev pub number_of : List ℕ → Option Number
number_of [] = None
number_of (b ∷ text) = pick (is_digit b) (Some (pick (eqb b 48) (number 0 1) (digits_of 3 (b - 48) 1 text))) None

-- the decimal digits of a number up to 9999: four digits, without the zeros in front
abbrev pub digit_of : ℕ → ℕ
digit_of n = 48 + n % 10

abbrev pub zeros_of : ℕ → ℕ
zeros_of n = pick (ltb n 10) 3 (pick (ltb n 100) 2 (pick (ltb n 1000) 1 0))

unfoldable pub dec : ℕ → List ℕ
dec n = drop (zeros_of n) (digit_of (n / 1000) ∷ digit_of (n / 100) ∷ digit_of (n / 10) ∷ digit_of n ∷ [])

-- the input as lines: no byte is left; bytes with no LF behind them; a line, without its LF, and the lines behind it
pub data Lines : Type 0 where
  none : Lines
  cut : List ℕ → Lines
  line : List ℕ → Lines → Lines

-- one more byte, other than LF, in front
abbrev pub grown : ℕ → Lines → Lines
grown b none = cut (b ∷ [])
grown b (cut l) = cut (b ∷ l)
grown b (line l rest) = line (b ∷ l) rest

abbrev pub lines_of : List ℕ → Lines
lines_of [] = none
lines_of (b ∷ text) = pick (eqb b LF) (line [] (lines_of text)) (grown b (lines_of text))
