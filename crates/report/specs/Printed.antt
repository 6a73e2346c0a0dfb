-- Document 01, "The printed result": the bytes that the program prints for the bytes of a card. Every line ends in LF.
use Rattle.std.specs.Prelude.{◌≡◌, List, [], ◌∷◌, ◌++◌, map, ℕ, suc, ◌/◌, ◌<◌, ◌≤◌, leb, ltb, eqb, length, get_or, drop}
use Prim.Native.String.{String}
use Rattle.laws.specs.Tab.{pick}
use Rattle.laws.specs.Text.{bytes}
use Rattle.table.specs.Model.{occurs_at, order_at, rows_of}
use Rattle.pairing.specs.Pairing.{Rel, Rank, Solvable}
use Rattle.card.specs.Text.{LF, comma, digit_of, dec}
use Rattle.card.specs.Refusal.{refusal_number}
use Rattle.card.specs.Card.{Judged, refused, good, judged}
use Rattle.analysis.specs.Outcome.{Worked, worked_index, worked_freedom, Lists}

-- ---- Lines and lists

-- a key, what stands behind it, and the line's end
abbrev pub field : String → List ℕ → List ℕ
field key value = bytes key ++ (value ++ LF ∷ [])

-- numbers behind a first one, each behind the byte that splits it from the one before
abbrev pub further : (ℕ → ℕ) → List ℕ → List ℕ
further split [] = []
further split (x ∷ l) = split 0 ∷ (dec x ++ further (λ i. split (suc i)) l)

abbrev pub joined : (ℕ → ℕ) → List ℕ → List ℕ
joined split [] = []
joined split (x ∷ l) = dec x ++ further split l

-- "lists by commas"
abbrev pub commas : List ℕ → List ℕ
commas l = joined (λ _. comma) l

-- "an empty list is `none`"
abbrev pub or_none : List ℕ → List ℕ
or_none [] = bytes "none"
or_none (x ∷ l) = commas (x ∷ l)

abbrev pub semicolon : ℕ
semicolon = 59

-- "blocks are split by semicolons, equations in one by commas": what splits two places with these block numbers
abbrev pub split_of : ℕ → ℕ → ℕ
split_of j k = pick (eqb j k) comma semicolon

-- the equations in solving order, with the block number of each place
abbrev pub blocks_of : List ℕ → List ℕ → List ℕ
blocks_of order block = joined (λ i. split_of (get_or block i 0) (get_or block (suc i) 0)) order

-- ---- The three texts

-- counts, tops, pairs (each equation's unknown), and the blocks: the equations in solving order with the block number of each place
abbrev pub solvable_lines : List ℕ → ℕ → ℕ → List ℕ → List ℕ → List ℕ → List ℕ → List ℕ → List ℕ
solvable_lines name index freedom counts tops pairs order block =
    field "rig=" name
    ++ (field "verdict=" (bytes "solvable")
    ++ (field "index=" (dec index)
    ++ (field "freedom=" (dec freedom)
    ++ (field "counts=" (commas counts)
    ++ (field "tops=" (commas tops)
    ++ (field "pairs=" (commas pairs)
    ++ field "blocks=" (blocks_of order block)))))))

abbrev pub singular_lines : List ℕ → ℕ → List ℕ → List ℕ → List ℕ
singular_lines name rank surplus unfixed =
    field "rig=" name
    ++ (field "verdict=" (bytes "singular")
    ++ (field "rank=" (dec rank)
    ++ (field "surplus=" (or_none surplus)
    ++ field "unfixed=" (or_none unfixed))))

-- the digits of a place: `dec` has four, a place up to five
unfoldable pub place_dec : ℕ → List ℕ
place_dec n =
    pick (ltb n 10000) (dec n) (digit_of (n / 10000) ∷ digit_of (n / 1000) ∷ digit_of (n / 100) ∷ digit_of (n / 10) ∷ digit_of n ∷ [])

-- "A refusal prints `refused=` and `place=`, a line each, and nothing else"
unfoldable pub refused_text : ℕ → ℕ → List ℕ
refused_text number place = field "refused=" (dec number) ++ field "place=" (place_dec place)

-- ---- What is printed for a good card: what holds of its model
-- The lists have equations and unknowns by their places, counted from 0; the printed numbers are one more.

-- a solvable model of n equations: its answer
pub record PrintsSolvable (name : List ℕ) (n : ℕ) (edge : Rel) (ord : ℕ → ℕ → ℕ) (text : List ℕ) : Type 0 where
  pub worked : Worked n edge ord
  pub says : text
      ≡ solvable_lines name (worked_index worked) (worked_freedom worked) worked.counts worked.tops (map suc worked.partner) (map suc worked.order)
      worked.block

-- any other: the size of a largest pairing, every surplus equation and every unfixed unknown
pub record PrintsSingular (name : List ℕ) (E U : ℕ) (edge : Rel) (text : List ℕ) : Type 0 where
  pub rank : ℕ
  pub ranked : Rank E U edge rank
  pub lists : Lists E U edge
  pub says : text ≡ singular_lines name rank (map suc lists.surplus) (map suc lists.unfixed)

-- "called solvable exactly if some pairing takes in all equations and all unknowns"
pub data PrintsModel (name : List ℕ) (E U : ℕ) (edge : Rel) (ord : ℕ → ℕ → ℕ) (text : List ℕ) : Type 0 where
  solvable : Solvable E U edge → PrintsSolvable name E edge ord text → PrintsModel name E U edge ord text
  singular : (Solvable E U edge → ⊥) → PrintsSingular name E U edge text → PrintsModel name E U edge ord text

-- ---- What is printed

abbrev pub PrintedOf : Judged → List ℕ → Type 0
PrintedOf (refused r) text = text ≡ refused_text (refusal_number r.refusal) r.place
PrintedOf (good name E U table) text = PrintsModel name E U (occurs_at (rows_of E U table)) (order_at (rows_of E U table)) text

-- "19: input above 16,384 bytes", judged first; its place is 0
abbrev pub input_limit : ℕ
input_limit = 16384

pub record Printed (input text : List ℕ) : Type 0 where
  pub long : input_limit < length input → text ≡ refused_text 19 0
  pub short : length input ≤ input_limit → PrintedOf (judged input) text

-- what the report hands back and leaves in a lent buffer: the text's length, and the text in the first bytes where there is room for all of it
pub record Reported (input before : List ℕ) (handed : ℕ) (after : List ℕ) : Type 0 where
  pub text : List ℕ
  pub printed : Printed input text
  pub size : handed ≡ length text
  pub bytes : after ≡ pick (leb (length text) (length before)) (text ++ drop (length text) before) before
