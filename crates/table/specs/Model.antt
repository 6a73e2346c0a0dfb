-- Document 01, "The table": limits, codes, the lent table's bytes, the table as rows of codes.
use Rattle.std.specs.Prelude.{Bool, not, ◌&&◌, List, [], ◌∷◌, ℕ, suc, ◌+◌, ◌-◌, ◌*◌, ◌<◌, ◌≤◌, leb, ltb, eqb, length, get_or}
use Rattle.laws.specs.Tab.{tab, pick}

-- E and U are each 1 to this; LIMIT of the code is the same number
abbrev pub limit : ℕ
limit = 32

-- the codes are 0 to this
abbrev pub top_code : ℕ
top_code = 4

-- a number of equations, or of unknowns: 1 to the limit
abbrev pub counted_in : ℕ → Bool
counted_in n = leb 1 n && leb n limit

-- a model has E equations and U unknowns
abbrev pub in_limits : ℕ → ℕ → Bool
in_limits E U = counted_in E && counted_in U

-- within the limits, and the lent table is E × U bytes
abbrev pub well_sized : ℕ → ℕ → List ℕ → Bool
well_sized E U t = in_limits E U && eqb (length t) (E * U)

-- the offset, from 0, of the first code above 4; the length where there is none
abbrev pub first_above : List ℕ → ℕ
first_above [] = 0
first_above (x ∷ xs) = pick (leb x top_code) (suc (first_above xs)) 0

-- a number of an equation or an unknown, counted from 1
pub record Numbered (n : ℕ) : Type 0 where
  pub low : 1 ≤ n
  pub high : n ≤ limit

-- rows of codes: what stands at equation place e and unknown place u, and 0 beyond the rows and columns
abbrev pub code_at : List (List ℕ) → ℕ → ℕ → ℕ
code_at t e u = get_or (get_or t e []) u 0

-- code 0: the unknown does not occur; every other code: it occurs
abbrev pub occurs_at : List (List ℕ) → ℕ → ℕ → Bool
occurs_at t e u = not (eqb (code_at t e u) 0)

-- the highest derivative's order, code less 1; spoken of only where the unknown occurs
abbrev pub order_at : List (List ℕ) → ℕ → ℕ → ℕ
order_at t e u = code_at t e u - 1

-- rows of E equations and U unknowns that were judged: within the limits, and no code above 4
pub record Bounded (E U : ℕ) (t : List (List ℕ)) : Type 0 where
  pub equations : E ≤ limit
  pub unknowns : U ≤ limit
  pub codes : (e u : ℕ) → e < E → u < U → code_at t e u ≤ top_code

-- limit rows of limit codes, given by a function of equation place and unknown place
abbrev pub square : (ℕ → ℕ → ℕ) → List (List ℕ)
square f = tab limit (λ e. tab limit (f e))

-- the lent bytes, row by row: place (e, u) is byte e × U + u, and 0 outside E × U
abbrev pub lent_code : ℕ → ℕ → List ℕ → ℕ → ℕ → ℕ
lent_code E U t e u = pick (ltb e E && ltb u U) (get_or t (e * U + u) 0) 0

-- the table held as rows
abbrev pub rows_of : ℕ → ℕ → List ℕ → List (List ℕ)
rows_of E U t = square (lent_code E U t)

-- equations and unknowns exchanged
abbrev pub turned : List (List ℕ) → List (List ℕ)
turned t = square (λ u e. code_at t e u)
