-- What the functions below the entries promise one another.
-- Types that the code declares:
--   Pair  the numbers of an equation and an unknown
--   Turn  a line after the unknowns line. `Next pair code next`: an occurs line with its pair and code; `Last n next`: the end line with its number;
--         the next line starts at `next`
--   Limits  E and U, within the limits
--   Head    what the first three lines say: where the rig line's LF stands, E and U, and where the next line starts
use Rattle.std.specs.Prelude.{◌≡◌, Option, None, Some, Result, Ok, Err, List, ℕ, ◌+◌, ◌*◌, ◌≤◌, eqb, ltb, length, take, drop}
use Rattle.laws.specs.Tab.{pick}
use Rattle.table.specs.Model.{limit}
use Rattle.table.specs.Number.{equation_number, unknown_number, or_zero}
use Rattle.card.specs.Text.{rig_key, Lines, none, cut, line, lines_of}
use Rattle.card.specs.Refusal.{refused_at}
use Rattle.card.specs.Card.{Judged, refused, good, judged, headed, Said, occurs, ends, list_of, read_of, table_of}
use Rattle.card.specs.declared.refusal.Refusal.TheVariants.{Shape, EndNumber}
use Rattle.card.specs.declared.refusal.Refused.{Refused}
use Rattle.card.specs.declared.Size.{Size}
use Rattle.card.specs.declared.head.Head.{Head}
use Rattle.card.specs.declared.list.Pair.{Pair}
use Rattle.card.specs.declared.list.Turn.{Turn}
use Rattle.card.specs.declared.list.Turn.TheVariants.{Next, Last}

-- where the first line's LF stands, if its first byte stands at `at`
abbrev pub end_of : ℕ → Lines → Option ℕ
end_of at none = None
end_of at (cut l) = None
end_of at (line l rest) = Some (at + length l)

-- what is left to judge behind the unknowns line
abbrev pub from_head : List ℕ → Result Head Refused → Judged
from_head s (Err r) = refused r
from_head s (Ok h) = list_of (drop (length rig_key) (take h.name_end s)) h.limits.equations h.limits.unknowns h.next (lines_of (drop h.next s))

-- the places of what was read
abbrev pub HeadFits : List ℕ → Result Head Refused → Type 0
HeadFits s (Err r) = Unit {0}
HeadFits s (Ok h) = (length rig_key ≤ h.name_end) × (h.name_end ≤ length s) × (h.next ≤ length s)

pub record HeadRead (s : List ℕ) (r : Result Head Refused) : Type 0 where
  pub same : judged s ≡ from_head s r
  pub fits : HeadFits s r

-- the same behind a rig line whose LF stands at `end`
pub record CountsRead (s : List ℕ) (end : ℕ) (r : Result Head Refused) : Type 0 where
  pub same : headed (drop (length rig_key) (take end s)) (end + 1) (lines_of (drop (end + 1) s)) ≡ from_head s r
  pub fits : HeadFits s r

-- the numbers of the pair before, 0, 0 where there is none
abbrev pub last_equation : Option Pair → ℕ
last_equation last = or_zero (λ p. equation_number p.equation) last

abbrev pub last_unknown : Option Pair → ℕ
last_unknown last = or_zero (λ p. unknown_number p.unknown) last

-- what a line says, by its numbers
abbrev pub said : Turn → Said
said (Next p code next) = occurs (equation_number p.equation) (unknown_number p.unknown) code next
said (Last n next) = ends n next

abbrev pub said_in : Result Turn Refused → Result Said Refused
said_in (Ok t) = Ok (said t)
said_in (Err r) = Err r

-- the end line at `at`, with the next line's start and the card's length: 16, bytes behind it, or good
abbrev pub end_said : ℕ → ℕ → ℕ → ℕ → ℕ → Result (Unit {0}) Refused
end_said size said count at next =
    pick (eqb said count) (pick (ltb next size) (Err (refused_at Shape next)) (Ok tt)) (Err (refused_at EndNumber at))

-- what the list of occurs lines comes to: the table is in the first E × U bytes
abbrev pub from_list : List ℕ → ℕ → ℕ → Result (List ℕ) Refused → Judged
from_list name E U (Ok t) = good name E U (take (E * U) t)
from_list name E U (Err r) = refused r

-- a table has room for the largest
abbrev pub ListSized : Result (List ℕ) Refused → Type 0
ListSized (Ok t) = length t ≡ limit * limit
ListSized (Err r) = Unit {0}

pub record ListRead (s : List ℕ) (E U at : ℕ) (r : Result (List ℕ) Refused) : Type 0 where
  pub same : (name : List ℕ) → list_of name E U at (lines_of (drop at s)) ≡ from_list name E U r
  pub sized : ListSized r

-- the reader from there on: what it hands back and the table bytes afterwards, of whatever the lines come to
pub record RestRead (s : List ℕ) (E U at : ℕ) (before : List ℕ) (r : Result Size Refused) (after : List ℕ) : Type 0 where
  pub answer : (name : List ℕ) → r ≡ read_of (length before) (list_of name E U at (lines_of (drop at s)))
  pub bytes : (name : List ℕ) → after ≡ table_of before (list_of name E U at (lines_of (drop at s)))
