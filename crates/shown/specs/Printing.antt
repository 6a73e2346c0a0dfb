-- What is printed for a list of numbers.
use Rattle.std.specs.Prelude.{Bool, List, [], ◌∷◌, ◌++◌, ℕ, zero, suc, eqb, length, get_or}
use Rattle.std.specs.Fmt.{decimal}
use Rattle.laws.specs.Tab.{pick}

-- one of them, behind `split` unless it is the first
abbrev pub next_text : List ℕ → Bool → ℕ → List ℕ
next_text split first number = pick first [] split ++ decimal number

-- the first n of them
abbrev pub listed : List ℕ → List ℕ → ℕ → List ℕ
listed split numbers zero = []
listed split numbers (suc n) = listed split numbers n ++ next_text split (eqb n 0) (get_or numbers n 0)

-- a label and all of them, on a line that ends in LF
abbrev pub line_text : List ℕ → List ℕ → List ℕ → List ℕ
line_text label split numbers = label ++ (listed split numbers (length numbers) ++ 10 ∷ [])
