-- Document 01, "The card": what the reader, the name question and the writer answer.
-- Types that the code declares: Entry (see Entry.antt), Refusal, Refused and Size (see Refusal.antt).
use Rattle.std.specs.Prelude.{Bool, ◌&&◌, ◌||◌, Option, None, Some, Result, Ok, Err, List, [], ◌∷◌, ◌++◌, ℕ, ◌+◌, ◌-◌, ◌*◌, ◌/◌, ◌%◌, leb, ltb, eqb, length, take, drop, set, replicate}
use Rattle.laws.specs.Tab.{pick}
use Rattle.table.specs.Model.{counted_in, in_limits, first_above}
use Rattle.card.specs.Text.{LF, comma, rig_key, equations_key, unknowns_key, occurs_key, end_key, begins, dec, Lines, none, cut, line, lines_of}
use Rattle.card.specs.Entry.{good_name, value_of, entry_of}
use Rattle.card.specs.Refusal.{refused_at}
use Rattle.card.specs.declared.entry.Entry.{Entry}
use Rattle.card.specs.declared.entry.Entry.TheVariants.{Occurs, End}
use Rattle.card.specs.declared.refusal.Refusal.{Refusal}
use Rattle.card.specs.declared.refusal.Refusal.TheVariants.{Shape, Name, Limits, OutOfRange, NotAfter, EndNumber, TableRoom, CardRoom, TableLength, Code}
use Rattle.card.specs.declared.refusal.Refused.{Refused}
use Rattle.card.specs.declared.Size.{Size}

-- ---- Reading: what a card comes to

-- refused, with the place; good: the name, E, U and the E × U codes
pub data Judged : Type 0 where
  refused : Refused → Judged
  good : List ℕ → ℕ → ℕ → List ℕ → Judged

-- the lines behind the first
abbrev pub behind : Lines → Lines
behind none = none
behind (cut l) = none
behind (line l rest) = rest

-- `rig=NAME`: refused 11 or 12, or where its LF stands. "All between `rig=` and LF is the name, judged by 12"
abbrev pub rig_of : Lines → Result ℕ Refused
rig_of none = Err (refused_at Shape 0)
rig_of (cut l) = Err (refused_at Shape 0)
rig_of (line l rest) =
    pick (begins rig_key l) (pick (good_name (drop (length rig_key) l)) (Ok (length l)) (Err (refused_at Name 0))) (Err (refused_at Shape 0))

-- `equations=E` and `unknowns=U`: refused 11 or 13, or the number and where the next line starts
abbrev pub count_said : ℕ → ℕ → Option ℕ → Result (ℕ × ℕ) Refused
count_said at next None = Err (refused_at Shape at)
count_said at next (Some n) = pick (counted_in n) (Ok (n, next)) (Err (refused_at Limits at))

abbrev pub count_of : List ℕ → ℕ → Lines → Result (ℕ × ℕ) Refused
count_of key at none = Err (refused_at Shape at)
count_of key at (cut l) = Err (refused_at Shape at)
count_of key at (line l rest) = count_said at (at + length l + 1) (value_of key l)

-- 14: "e above E or 0, u above U or 0, or k above 3"
abbrev pub in_range : ℕ → ℕ → ℕ → ℕ → ℕ → Bool
in_range E U e u k = ((leb 1 e && leb e E) && (leb 1 u && leb u U)) && leb k 3

-- 15: "this pair equals or precedes the one before", e', u'
abbrev pub not_after : ℕ → ℕ → ℕ → ℕ → Bool
not_after e u e' u' = ltb e e' || (eqb e e' && leb u u')

-- a line after the unknowns line that is taken: an occurs line with e, u and the code k + 1, or the end line with its number; and where the next line starts
pub data Said : Type 0 where
  occurs : ℕ → ℕ → ℕ → ℕ → Said
  ends : ℕ → ℕ → Said

-- such a line at a place: refused 11, 14 or 15, or what it says
abbrev pub turn_said : ℕ → ℕ → ℕ → ℕ → ℕ → ℕ → Option Entry → Result Said Refused
turn_said E U e' u' at next None = Err (refused_at Shape at)
turn_said E U e' u' at next (Some (Occurs o)) =
    pick (in_range E U o.equation o.unknown o.order)
    (pick (not_after o.equation o.unknown e' u') (Err (refused_at NotAfter at)) (Ok (occurs o.equation o.unknown (o.order + 1) next)))
    (Err (refused_at OutOfRange at))
turn_said E U e' u' at next (Some (End n)) = Ok (ends n next)

abbrev pub turn_of : ℕ → ℕ → ℕ → ℕ → ℕ → Lines → Result Said Refused
turn_of E U e' u' at none = Err (refused_at Shape at)
turn_of E U e' u' at (cut l) = Err (refused_at Shape at)
turn_of E U e' u' at (line l rest) = turn_said E U e' u' at (at + length l + 1) (entry_of l)

-- the byte of a pair in the table, which stands row by row
abbrev pub cell : ℕ → ℕ → ℕ → ℕ
cell U e u = (e - 1) * U + (u - 1)

module _ (name : List ℕ) (E U : ℕ) where
  -- "Bytes after the end line count as a line of their own"
  abbrev pub finished : List ℕ → ℕ → Lines → Judged
  finished t at none = good name E U t
  finished t at (cut l) = refused (refused_at Shape at)
  finished t at (line l rest) = refused (refused_at Shape at)

  -- what a line at `at` comes to: n occurs lines stand before it, t is the table so far, `on` goes on behind an occurs line
  abbrev pub from_turn : ℕ → List ℕ → ℕ → Result Said Refused → Lines → (ℕ → ℕ → List ℕ → ℕ → Judged) → Judged
  from_turn n t at (Err r) rest on = refused r
  from_turn n t at (Ok (ends m next)) rest on = pick (eqb m n) (finished t next rest) (refused (refused_at EndNumber at))
  from_turn n t at (Ok (occurs e u code next)) rest on = on e u (set t (cell U e u) code) next

  -- the occurs lines and the end line: e', u' is the pair before, 0, 0 where there is none
  abbrev pub collected : ℕ → ℕ → ℕ → List ℕ → ℕ → Lines → Judged
  collected n e' u' t at none = refused (refused_at Shape at)
  collected n e' u' t at (cut l) = refused (refused_at Shape at)
  collected n e' u' t at (line l rest) =
      from_turn n t at (turn_of E U e' u' at (line l rest)) rest (λ e u t next. collected (n + 1) e u t next rest)

  -- all of them, from the first on: every code is 0 yet
  abbrev pub list_of : ℕ → Lines → Judged
  list_of at lines = collected 0 0 0 (replicate (E * U) 0) at lines

-- what a count line comes to: `on` goes on behind it
abbrev pub from_count : Result (ℕ × ℕ) Refused → (ℕ → ℕ → Judged) → Judged
from_count (Err r) on = refused r
from_count (Ok (n, next)) on = on n next

-- the lines behind the rig line
abbrev pub headed : List ℕ → ℕ → Lines → Judged
headed name at lines =
    from_count (count_of equations_key at lines)
    (λ E at'. from_count (count_of unknowns_key at' (behind lines))
    (λ U at''. list_of name E U at'' (behind (behind lines))))

-- what the rig line comes to
abbrev pub from_rig : List ℕ → Result ℕ Refused → Lines → Judged
from_rig s (Err r) lines = refused r
from_rig s (Ok end) lines = headed (drop (length rig_key) (take end s)) (end + 1) (behind lines)

-- "the first faulty line decides"
abbrev pub judged : List ℕ → Judged
judged s = from_rig s (rig_of (lines_of s)) (lines_of s)

-- what the reader hands back, with room for so many table bytes: "17 comes last"
abbrev pub read_of : ℕ → Judged → Result Size Refused
read_of room (refused r) = Err r
read_of room (good name E U t) = pick (ltb room (E * U)) (Err (refused_at TableRoom 0)) (Ok (record { equations = E; unknowns = U }))

-- the table bytes afterwards: the first E × U of a good card, and as before where refused
abbrev pub table_of : List ℕ → Judged → List ℕ
table_of before (refused r) = before
table_of before (good name E U t) = pick (ltb (length before) (E * U)) before (t ++ drop (E * U) before)

-- the name question
abbrev pub name_of : Judged → List ℕ
name_of (refused r) = []
name_of (good name E U t) = name

-- where the part that it gives starts in the card: behind `rig=`, or at the card's start where the part is empty
abbrev pub name_at : Judged → ℕ
name_at (refused r) = 0
name_at (good name E U t) = length rig_key

-- ---- Writing

abbrev pub line_of : List ℕ → List ℕ
line_of l = l ++ LF ∷ []

-- `occurs=e,u,k` for the code k + 1 at a byte of the table, and nothing for code 0
abbrev pub occurs_line : ℕ → ℕ → ℕ → List ℕ
occurs_line U at code =
    pick (eqb code 0) [] (line_of (occurs_key ++ dec (at / U + 1) ++ comma ∷ dec (at % U + 1) ++ comma ∷ dec (code - 1)))

-- the table's bytes from `at` on, row by row
abbrev pub occurs_lines : ℕ → ℕ → List ℕ → List ℕ
occurs_lines U at [] = []
occurs_lines U at (code ∷ t) = occurs_line U at code ++ occurs_lines U (at + 1) t

-- how many occur
abbrev pub occurrences : List ℕ → ℕ
occurrences [] = 0
occurrences (code ∷ t) = pick (eqb code 0) (occurrences t) (occurrences t + 1)

-- `rig=NAME`, `equations=E`, `unknowns=U`
abbrev pub head_lines : List ℕ → ℕ → ℕ → List ℕ
head_lines name E U = line_of (rig_key ++ name) ++ line_of (equations_key ++ dec E) ++ line_of (unknowns_key ++ dec U)

-- the card: the first three lines, the occurs lines, and `end=N` with N the number of occurs lines
unfoldable pub card_of : List ℕ → ℕ → ℕ → List ℕ → List ℕ
card_of name E U t = head_lines name E U ++ occurs_lines U 0 t ++ line_of (end_key ++ dec (occurrences t))

-- what the writer hands back, with room for so many card bytes: "12, 13, 2, 4, 18 in that order"
abbrev pub wrote_none : Refusal → ℕ → Result ℕ Refused
wrote_none refusal place = Err (refused_at refusal place)

abbrev pub write_of : ℕ → List ℕ → ℕ → ℕ → List ℕ → Result ℕ Refused
write_of room name E U t =
    pick (good_name name)
    (pick (in_limits E U)
    (pick (eqb (length t) (E * U))
    (pick (eqb (first_above t) (length t))
    (pick (leb (length (card_of name E U t)) room)
    (Ok (length (card_of name E U t)))
    (wrote_none CardRoom 0))
    (wrote_none Code (first_above t)))
    (wrote_none TableLength 0))
    (wrote_none Limits 0))
    (wrote_none Name 0)

-- the card bytes afterwards: the written card, and as before where refused
abbrev pub card_after : List ℕ → Result ℕ Refused → List ℕ → List ℕ
card_after before (Ok n) card = card ++ drop (length card) before
card_after before (Err r) card = before
