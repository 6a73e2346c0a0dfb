-- Document 01, "The card": what one line says.
-- Types that the code declares:
--   Occurrence  the numbers of an occurs line: equation, unknown and order
--   Entry       a line after the unknowns line. `Occurs (occurrence e u k)`: `occurs=e,u,k`; `End n`: `end=n`
use Rattle.std.specs.Prelude.{Option, None, Some, Bool, ◌&&◌, ◌||◌, List, [], ◌∷◌, ℕ, ◌+◌, leb, eqb, length, drop}
use Rattle.std.specs.List.{list_all}
use Rattle.laws.specs.Tab.{pick}
use Rattle.card.specs.Text.{comma, occurs_key, end_key, begins, is_letter, is_digit, number, number_of}
use Rattle.card.specs.declared.text.Number.{Number}
use Rattle.card.specs.declared.entry.Occurrence.{Occurrence}
use Rattle.card.specs.declared.entry.Entry.{Entry}
use Rattle.card.specs.declared.entry.Entry.TheVariants.{Occurs, End}

-- "NAME is 1 to 24 bytes of a-z, 0-9 and hyphen"
abbrev pub name_byte : ℕ → Bool
name_byte b = is_letter b || (is_digit b || eqb b 45)

abbrev pub good_name : List ℕ → Bool
good_name name = (leb 1 (length name) && leb (length name) 24) && list_all name_byte name

-- a text that is one number and nothing behind it
abbrev pub alone : ℕ → Option Number → Option ℕ
alone n None = None
alone n (Some d) = pick (eqb d.took n) (Some d.value) None

abbrev pub whole_of : List ℕ → Option ℕ
whole_of text = alone (length text) (number_of text)

-- a line of a key and one number: `equations=E`, `unknowns=U`, `end=N`
abbrev pub value_of : List ℕ → List ℕ → Option ℕ
value_of key l = pick (begins key l) (whole_of (drop (length key) l)) None

-- a number and a comma at the front of a text, and how many bytes the two take
abbrev pub with_comma : List ℕ → Option Number → Option Number
with_comma text None = None
with_comma text (Some d) = pick (begins (comma ∷ []) (drop d.took text)) (Some (number d.value (d.took + 1))) None

abbrev pub comma_of : List ℕ → Option Number
comma_of text = with_comma text (number_of text)

abbrev pub occurrence : ℕ → ℕ → ℕ → Occurrence
occurrence e u k = record { equation = e; unknown = u; order = k }

-- `e,u,k`: e and a comma, u and a comma, k and nothing behind it
abbrev pub order_of : ℕ → ℕ → Option ℕ → Option Entry
order_of e u None = None
order_of e u (Some k) = Some (Occurs (occurrence e u k))

abbrev pub unknown_of : ℕ → List ℕ → Option Number → Option Entry
unknown_of e text None = None
unknown_of e text (Some u) = order_of e u.value (whole_of (drop u.took text))

abbrev pub equation_of : List ℕ → Option Number → Option Entry
equation_of text None = None
equation_of text (Some e) = unknown_of e.value (drop e.took text) (comma_of (drop e.took text))

abbrev pub triple_of : List ℕ → Option Entry
triple_of text = equation_of text (comma_of text)

-- the end line's number
abbrev pub ended : Option ℕ → Option Entry
ended None = None
ended (Some n) = Some (End n)

-- "After the unknowns line a line beginning `end=` is the end line, any other is due to be an occurs line"
abbrev pub entry_of : List ℕ → Option Entry
entry_of l = pick (begins end_key l) (ended (value_of end_key l)) (pick (begins occurs_key l) (triple_of (drop (length occurs_key) l)) None)
