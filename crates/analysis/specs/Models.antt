-- Document 01, "Checked models": the nine lettered models as one table, a row a model, and the one statement about it.
use Rattle.std.specs.Prelude.{List, [], ◌∷◌, ◌++◌, ℕ, ◌≤◌, length, drop}
use Prim.{Unit}
use Rattle.analysis.specs.Outcome.{packed, strips, answer_bytes, Reply}

-- E, U and the lent table's bytes; the number handed back; and what stands in each of the five strips before its unused places
pub record Row : Type 0 where
  pub equations : ℕ
  pub unknowns : ℕ
  pub table : List ℕ
  pub number : ℕ
  pub strip1 : List ℕ
  pub strip2 : List ℕ
  pub strip3 : List ℕ
  pub strip4 : List ℕ
  pub strip5 : List ℕ

-- the row is an outcome, whatever stands in an answer buffer that is long enough
abbrev pub Holds : Row → Type 0
Holds r = (before : List ℕ) → answer_bytes ≤ length before
    → Reply r.equations r.unknowns r.table before r.number
    (strips r.strip1 r.strip2 r.strip3 r.strip4 r.strip5 ++ drop answer_bytes before)

abbrev pub Every : List Row → Type 0
Every [] = Unit {0}
Every (r ∷ rs) = Holds r × Every rs

-- solvable: index, freedom, blocks; counts, tops, partners, solving order, block numbers
abbrev pub solvable : ℕ → List ℕ → ℕ → ℕ → ℕ → List ℕ → List ℕ → List ℕ → List ℕ → List ℕ → Row
solvable n table index freedom blocks counts tops partner order block = record {
  equations = n;
  unknowns = n;
  table = table;
  number = packed 0 0 n index freedom blocks;
  strip1 = counts;
  strip2 = tops;
  strip3 = partner;
  strip4 = order;
  strip5 = block;
}

-- singular: rank; surplus, unfixed
abbrev pub singular : ℕ → ℕ → List ℕ → ℕ → List ℕ → List ℕ → Row
singular E U table rank surplus unfixed = record {
  equations = E;
  unknowns = U;
  table = table;
  number = packed 10 0 rank 0 0 0;
  strip1 = surplus;
  strip2 = unfixed;
  strip3 = [];
  strip4 = [];
  strip5 = [];
}

unfoldable pub models : List Row
models =
    -- A: {1:1, 3:0} {2:0, 3:0} {1:0}
    solvable 3 (2 ∷ 0 ∷ 1 ∷ 0 ∷ 1 ∷ 1 ∷ 1 ∷ 0 ∷ 0 ∷ []) 1 0 3 (0 ∷ 0 ∷ 1 ∷ []) (1 ∷ 0 ∷ 0 ∷ []) (3 ∷ 2 ∷ 1 ∷ []) (3 ∷ 1 ∷ 2 ∷ []) (1 ∷ 2 ∷ 3 ∷ [])
    -- B: A without equation 3
    ∷ singular 2 3 (2 ∷ 0 ∷ 1 ∷ 0 ∷ 1 ∷ 1 ∷ []) 2 [] (1 ∷ 2 ∷ 3 ∷ [])
    -- C: {1:1, 3:0} {1:0} {1:0}
    ∷ singular 3 3 (2 ∷ 0 ∷ 1 ∷ 1 ∷ 0 ∷ 0 ∷ 1 ∷ 0 ∷ 0 ∷ []) 2 (2 ∷ 3 ∷ []) (2 ∷ [])
    -- D: {1:3}
    ∷ solvable 1 (4 ∷ []) 0 3 1 (0 ∷ []) (3 ∷ []) (1 ∷ []) (1 ∷ []) (1 ∷ [])
    -- F: one row, one unknown, code 0
    ∷ singular 1 1 (0 ∷ []) 0 (1 ∷ []) (1 ∷ [])
    -- G: {1:0, 2:0} {1:0, 2:0}
    ∷ solvable 2 (1 ∷ 1 ∷ 1 ∷ 1 ∷ []) 0 0 1 (0 ∷ 0 ∷ []) (0 ∷ 0 ∷ []) (1 ∷ 2 ∷ []) (1 ∷ 2 ∷ []) (1 ∷ 1 ∷ [])
    -- H: {1:0, 2:0} {1:0}
    ∷ solvable 2 (1 ∷ 1 ∷ 1 ∷ 0 ∷ []) 0 0 2 (0 ∷ 0 ∷ []) (0 ∷ 0 ∷ []) (2 ∷ 1 ∷ []) (2 ∷ 1 ∷ []) (1 ∷ 2 ∷ [])
    -- J: {1:0} {1:3, 2:0}
    ∷ solvable 2 (1 ∷ 0 ∷ 4 ∷ 1 ∷ []) 3 0 2 (3 ∷ 0 ∷ []) (3 ∷ 0 ∷ []) (1 ∷ 2 ∷ []) (1 ∷ 2 ∷ []) (1 ∷ 2 ∷ [])
    -- K: {1:2, 3:0} {2:2, 3:0} {1:0, 2:0}
    ∷ solvable 3 (3 ∷ 0 ∷ 1 ∷ 0 ∷ 3 ∷ 1 ∷ 1 ∷ 1 ∷ 0 ∷ []) 2 2 1 (0 ∷ 0 ∷ 2 ∷ []) (2 ∷ 2 ∷ 0 ∷ []) (1 ∷ 3 ∷ 2 ∷ []) (1 ∷ 2 ∷ 3 ∷ []) (1 ∷ 1 ∷ 1 ∷ [])
    ∷ []
