-- The numbers that the card's entries hand back, each as one number for the C calling form.
use Rattle.std.specs.Prelude.{◌≡◌, Result, List, ℕ, ◌+◌, ◌*◌, ◌/◌, ◌%◌, length, take, drop}
use Rattle.card.specs.Card.{Judged, judged, read_of, table_of, name_of, name_at, card_of, write_of, card_after}
use Rattle.card.specs.Refusal.{refused_number, refused_place, read_equations, read_unknowns, written_length}
use Rattle.card.specs.declared.refusal.Refused.{Refused}
use Rattle.card.specs.declared.Size.{Size}

-- from the lowest byte: a byte, two bytes, low first, and what stands in the fourth and from the fifth byte on
abbrev pub packed_card : ℕ → ℕ → ℕ → ℕ → ℕ
packed_card first second fourth fifth = first + second * 256 + fourth * 16777216 + fifth * 4294967296

-- the reader: number, place in two bytes, E, U, then 0
abbrev pub read_number : Result Size Refused → ℕ
read_number r = packed_card (refused_number r) (refused_place r) (read_equations r) (read_unknowns r)

pub record ReadPacked (card before : List ℕ) (number : ℕ) (after : List ℕ) : Type 0 where
  pub answer : number ≡ read_number (read_of (length before) (judged card))
  pub bytes : after ≡ table_of before (judged card)

-- the writer: number, place in two bytes, length in two bytes, then 0
abbrev pub write_number : Result ℕ Refused → ℕ
write_number w = packed_card (refused_number w) (refused_place w) (written_length w) 0

pub record WritePacked (name : List ℕ) (E U : ℕ) (table before : List ℕ) (number : ℕ) (after : List ℕ) : Type 0 where
  pub answer : number ≡ write_number (write_of (length before) name E U table)
  pub bytes : after ≡ card_after before (write_of (length before) name E U table) (card_of name E U table)

-- the name question: the length of the part that holds the name, its offset in the card in two bytes, then 0
abbrev pub name_number : Judged → ℕ
name_number j = packed_card (length (name_of j)) (name_at j) 0 0

pub record NamePacked (card : List ℕ) (number : ℕ) : Type 0 where
  pub answer : number ≡ name_number (judged card)

-- what the caller takes off: the lowest byte, the two bytes behind it, the fourth byte or the fourth and fifth as one number, the fifth byte
abbrev pub first_in : ℕ → ℕ
first_in n = n % 256

abbrev pub second_in : ℕ → ℕ
second_in n = n / 256 % 65536

abbrev pub fourth_in : ℕ → ℕ
fourth_in n = n / 16777216 % 256

abbrev pub fifth_in : ℕ → ℕ
fifth_in n = n / 4294967296 % 256

abbrev pub two_from_fourth_in : ℕ → ℕ
two_from_fourth_in n = n / 16777216 % 65536

-- the part of a card that the name question's number says
abbrev pub part_in : List ℕ → ℕ → List ℕ
part_in card n = take (first_in n) (drop (second_in n) card)
