-- What the promises of the card's entries in the C calling form come to: one outcome each, what a refusal leaves alone, where places lie,
-- and both round trips with what the caller takes off the numbers. Nothing is cut short, so each is the theorem of `card` about what was packed.
use mathlib.Core.Path.{◌≡◌, refl, ap, sym, ◌∙◌}
use mathlib.Core.List.{List}
use Prim.Native.Nat.{ℕ, ◌+◌, ◌*◌, ◌≤◌}
use denote.Ref.{Bor}
use lib.ListN.{length, take}
use Rattle.card.specs.Card.{judged, name_at, card_of}
use Rattle.card.specs.Promise.{WriteGood, IsCard, NamePart}
use Rattle.card.proofs.Theorems.{read_refused, read_fits, write_refused, name_lies, CardAgain, card_again, TableAgain, table_again}
use Rattle.screen.specs.Packed.{ReadPacked, WritePacked, NamePacked, first_in, second_in, fourth_in, fifth_in, two_from_fourth_in, part_in}
use Rattle.screen.proofs.Unpacked.{read_done, write_done, read_whole, write_whole, name_whole}

-- ---- one outcome each

pub read_packed_one : {card before after after' : List ℕ} {n n' : ℕ} → ReadPacked card before n after → ReadPacked card before n' after'
    → (n ≡ n') × (after ≡ after')
read_packed_one k l = (k.answer ∙ sym l.answer, k.bytes ∙ sym l.bytes)

pub write_packed_one : {name table before after after' : List ℕ} {E U n n' : ℕ} → WritePacked name E U table before n after
    → WritePacked name E U table before n' after' → (n ≡ n') × (after ≡ after')
write_packed_one k l = (k.answer ∙ sym l.answer, k.bytes ∙ sym l.bytes)

pub name_packed_one : {card : List ℕ} {n n' : ℕ} → NamePacked card n → NamePacked card n' → n ≡ n'
name_packed_one k l = k.answer ∙ sym l.answer

-- ---- a refusal changes no lent byte

pub read_packed_refused : {card before after : List ℕ} {n : ℕ} → ReadPacked card before n after → (first_in n ≡ 0 → ⊥) → after ≡ before
read_packed_refused k h = (read_refused (read_done k) (λ z. h ((read_whole k).number ∙ z))).0

pub write_packed_refused : {name table before after : List ℕ} {E U n : ℕ} → WritePacked name E U table before n after → (first_in n ≡ 0 → ⊥) → after ≡ before
write_packed_refused k h = write_refused (write_done k) (λ z. h ((write_whole k).number ∙ z))

-- ---- places

-- a reader's place is at most the card's length
pub read_packed_within : {card before after : List ℕ} {n : ℕ} → ReadPacked card before n after → second_in n ≤ length card
read_packed_within k = rw (read_whole k).place (read_fits (read_done k)).within

-- the part that the name's number says lies within the card
pub name_packed_within : {card : List ℕ} {n : ℕ} → NamePacked card n → second_in n + first_in n ≤ length card
name_packed_within {card} k = let w = name_whole k in rw (w.place, w.long) (name_lies card).within

-- ---- there and back

-- a card and the part that the name's number says, as the name question is lent the one and gives back the other
abbrev lent : List ℕ → Bor (List ℕ)
lent card = record { ref_ptr = (0, 0); now = card }

abbrev part_of : List ℕ → ℕ → Bor (List ℕ)
part_of card n = record { ref_ptr = (0, name_at (judged card) + 0); now = part_in card n }

name_part : {card : List ℕ} {n : ℕ} → NamePacked card n → NamePart (lent card) (part_of card n)
name_part {card} k = let w = name_whole k in record { bytes = rw (w.place, w.long) (name_lies card).bytes; block = refl; place = refl }

-- with room enough, a good card read and written again has the same bytes
pub card_again_packed : {card name t table table' before after : List ℕ} {E U r n w : ℕ}
    → IsCard card name E U t → E * U ≤ length table → length card ≤ length before
    → ReadPacked card table r table' → NamePacked card n
    → WritePacked (part_in card n) (fourth_in r) (fifth_in r) (take (fourth_in r * fifth_in r) table') before w after
    → CardAgain card before (first_in r) (first_in w) (two_from_fourth_in w) after
card_again_packed i h h' k m l =
    let a = read_whole k in
    let v = rw (a.equations, a.unknowns) at l in
    let b = write_whole v in
    rw (a.number, b.number, b.length_is) (card_again i h h' (read_done k) (name_part m) (write_done v))

-- with room enough, a good table and name written and read again come back the same
pub table_again_packed : {card name t table table' before after : List ℕ} {E U r n w : ℕ}
    → WriteGood name E U t → length (card_of name E U t) ≤ length before → E * U ≤ length table
    → WritePacked name E U t before w after → card ≡ take (two_from_fourth_in w) after → ReadPacked card table r table' → NamePacked card n
    → TableAgain name E U t table (first_in w) (first_in r) (fourth_in r) (fifth_in r) table' (part_in card n)
table_again_packed {card} {name} {t} {table} {table'} {before} {after} g h h' k e l m =
    let a = write_whole k in
    let b = read_whole l in
    rw (a.number, b.number, b.equations, b.unknowns)
    (table_again g h h' (write_done k) (e ∙ ap (λ i. take i after) a.length_is) (read_done l) (name_part m))
