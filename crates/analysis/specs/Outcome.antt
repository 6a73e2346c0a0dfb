-- Document 01, "What the analysis hands back": for E, U, the lent table and the answer buffer before, the number handed back and the answer buffer after.
-- Equations and unknowns are spoken of by their places, counted from 0; the answer has their numbers, one more.
use Rattle.std.specs.Prelude.{◌≡◌, not, List, [], ◌++◌, map, ℕ, suc, ◌+◌, ◌*◌, ◌/◌, ◌%◌, eqb, ltb, length, get_or, drop}
use Rattle.laws.specs.Tab.{tab, pick, number_at}
use Rattle.table.specs.Model.{limit, in_limits, first_above, occurs_at, order_at, rows_of}
use Rattle.pairing.specs.Pairing.{Rel, Rank, Surplus, Unfixed, Listed}
use Rattle.pairing.specs.First.{First}
use Rattle.counts.specs.Fit.{Least, leading, index_of, freedom_of}
use Rattle.blocks.specs.Blocks.{needs_at, Placed}
use Rattle.analysis.specs.declared.judge.Refusal.{Refusal}
use Rattle.analysis.specs.declared.judge.Refusal.TheVariants.{OutOfLimits, TableLength, ShortAnswer, CodeAbove}

-- the six numbers as one: from the lowest byte code, place (two bytes, low first), rank, index, freedom, blocks, then 0
abbrev pub packed : ℕ → ℕ → ℕ → ℕ → ℕ → ℕ → ℕ
packed code place rank index freedom blocks =
    code + place * 256 + rank * 16777216 + index * 4294967296 + freedom * 1099511627776 + blocks * 281474976710656

-- and how the caller takes them off again
abbrev pub code_in : ℕ → ℕ
code_in number = number % 256

abbrev pub place_in : ℕ → ℕ
place_in number = number / 256 % 65536

abbrev pub rank_in : ℕ → ℕ
rank_in number = number / 16777216 % 256

abbrev pub index_in : ℕ → ℕ
index_in number = number / 4294967296 % 256

abbrev pub freedom_in : ℕ → ℕ
freedom_in number = number / 1099511627776 % 256

abbrev pub blocks_in : ℕ → ℕ
blocks_in number = number / 281474976710656 % 256

-- unused places of a strip are 255
abbrev pub unused : ℕ
unused = 255

-- a strip: the list's numbers, and unused places up to the limit
abbrev pub strip : List ℕ → List ℕ
strip l = tab limit (λ i. get_or l i unused)

-- the answer buffer: five strips
abbrev pub strips : List ℕ → List ℕ → List ℕ → List ℕ → List ℕ → List ℕ
strips a b c d e = strip a ++ (strip b ++ (strip c ++ (strip d ++ strip e)))

abbrev pub answer_bytes : ℕ
answer_bytes = 5 * limit

-- checked in the order 1, 2, 3, 4; the first that applies, and 0 where none does; `room` is the answer buffer's length
abbrev pub refusal : ℕ → ℕ → List ℕ → ℕ → ℕ
refusal E U table room =
    pick (not (in_limits E U)) 1
    (pick (not (eqb (length table) (E * U))) 2
    (pick (ltb room answer_bytes) 3
    (pick (ltb (first_above table) (length table)) 4
    0)))

-- the place that goes with it: for 4 the first offset of a code above 4
abbrev pub refusal_place : ℕ → List ℕ → ℕ
refusal_place code table = pick (eqb code 4) (first_above table) 0

-- the code of each refusal, and the place with it, as the analysis tells them apart
abbrev pub code_of : Refusal → ℕ
code_of OutOfLimits = 1
code_of TableLength = 2
code_of ShortAnswer = 3
code_of (CodeAbove at) = 4

abbrev pub place_with : Refusal → ℕ
place_with OutOfLimits = 0
place_with TableLength = 0
place_with ShortAnswer = 0
place_with (CodeAbove at) = at

-- refused: the code and its place, others 0; nothing written
pub record Refused (code : ℕ) (table before : List ℕ) (number : ℕ) (after : List ℕ) : Type 0 where
  pub says : number ≡ packed code (refusal_place code table) 0 0 0 0
  pub holds : after ≡ before

-- the answer to a solvable model of n equations: counts by equation, tops by unknown, partner by equation, equations in solving order,
-- the block number of each place in that order, and how many blocks there are
pub record Worked (n : ℕ) (edge : Rel) (ord : ℕ → ℕ → ℕ) : Type 0 where
  pub counts : List ℕ
  pub tops : List ℕ
  pub partner : List ℕ
  pub order : List ℕ
  pub block : List ℕ
  pub blocks : ℕ
  pub sizes : (length counts ≡ n) × (length tops ≡ n) × (length partner ≡ n) × (length order ≡ n) × (length block ≡ n)
  pub least : Least n n edge ord (number_at counts) (number_at tops)
  pub first : First n n (leading edge ord (number_at counts) (number_at tops)) (number_at partner)
  pub placed : Placed n (needs_at n (leading edge ord (number_at counts) (number_at tops)) (number_at partner)) (number_at order) (number_at block) blocks

-- its index and its freedom
abbrev pub worked_index : {n : ℕ} {edge : Rel} {ord : ℕ → ℕ → ℕ} → Worked n edge ord → ℕ
worked_index {n} w = index_of n (number_at w.counts)

abbrev pub worked_freedom : {n : ℕ} {edge : Rel} {ord : ℕ → ℕ → ℕ} → Worked n edge ord → ℕ
worked_freedom {n} w = freedom_of n n (number_at w.counts) (number_at w.tops)

-- code 0, solvable: place 0, the rest true; the five strips are the answer's lists; bytes behind the strips are not written
pub record Solved (n : ℕ) (edge : Rel) (ord : ℕ → ℕ → ℕ) (rank : ℕ) (before : List ℕ) (number : ℕ) (after : List ℕ) : Type 0 where
  pub worked : Worked n edge ord
  pub says : number ≡ packed 0 0 rank (worked_index worked) (worked_freedom worked) worked.blocks
  pub holds : after
      ≡ strips worked.counts worked.tops (map suc worked.partner) (map suc worked.order) worked.block ++ drop answer_bytes before

-- the two lists of a singular model: every surplus equation and every unfixed unknown, ascending
pub record Lists (E U : ℕ) (edge : Rel) : Type 0 where
  pub surplus : List ℕ
  pub unfixed : List ℕ
  pub all_surplus : Listed E (Surplus E U edge) surplus
  pub all_unfixed : Listed U (Unfixed E U edge) unfixed

-- code 10, singular: rank true, others 0; the strips are surplus, unfixed, three of 255; bytes behind the strips are not written
pub record Singular (E U : ℕ) (edge : Rel) (rank : ℕ) (before : List ℕ) (number : ℕ) (after : List ℕ) : Type 0 where
  pub lists : Lists E U edge
  pub says : number ≡ packed 10 0 rank 0 0 0
  pub holds : after ≡ strips (map suc lists.surplus) (map suc lists.unfixed) [] [] [] ++ drop answer_bytes before

-- solvable means E = U = rank; all else within the limits is singular
pub record Verdict (E U : ℕ) (edge : Rel) (ord : ℕ → ℕ → ℕ) (before : List ℕ) (number : ℕ) (after : List ℕ) : Type 0 where
  pub rank : ℕ
  pub ranked : Rank E U edge rank
  pub solvable : E ≡ U → rank ≡ E → Solved E edge ord rank before number after
  pub singular : (E ≡ U → rank ≡ E → ⊥) → Singular E U edge rank before number after

-- what the analysis hands back: the first refusal that applies, or else the verdict on the lent table
pub record Reply (E U : ℕ) (table before : List ℕ) (number : ℕ) (after : List ℕ) : Type 0 where
  pub refused : (refusal E U table (length before) ≡ 0 → ⊥) → Refused (refusal E U table (length before)) table before number after
  pub verdict : refusal E U table (length before) ≡ 0 → Verdict E U (occurs_at (rows_of E U table)) (order_at (rows_of E U table)) before number after
