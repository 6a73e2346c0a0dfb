-- What the three entries promise, in document 01's order: a good card, the reader, the name question, the writer.
use Rattle.std.specs.Prelude.{◌≡◌, true, Result, List, ℕ, ◌+◌, ◌*◌, eqb, length}
use Rattle.std.specs.Borrow.{Bor}
use Rattle.table.specs.Model.{in_limits, first_above}
use Rattle.card.specs.Entry.{good_name}
use Rattle.card.specs.Card.{judged, read_of, table_of, name_of, name_at, card_of, write_of, card_after}
use Rattle.card.specs.declared.refusal.Refused.{Refused}
use Rattle.card.specs.declared.Size.{Size}

-- a good name and table: 12, 13, 2 and 4 do not apply
pub record WriteGood (name : List ℕ) (E U : ℕ) (t : List ℕ) : Type 0 where
  pub named : good_name name ≡ true
  pub limits : in_limits E U ≡ true
  pub sized : eqb (length t) (E * U) ≡ true
  pub codes : eqb (first_above t) (length t) ≡ true

-- a good card: the card of a good name and table. The reader's `judged` finds exactly these good (`good_exactly`)
pub record IsCard (s name : List ℕ) (E U : ℕ) (t : List ℕ) : Type 0 where
  pub bytes : s ≡ card_of name E U t
  pub fine : WriteGood name E U t

-- the reader: what it hands back, and the table bytes afterwards
pub record ReadDone (s before : List ℕ) (r : Result Size Refused) (after : List ℕ) : Type 0 where
  pub answer : r ≡ read_of (length before) (judged s)
  pub bytes : after ≡ table_of before (judged s)

-- the name question: the part's bytes, and where it lies in the card that was handed over (`ref_ptr`: a block of memory and an offset in it)
pub record NamePart (card part : Bor (List ℕ)) : Type 0 where
  pub bytes : part.now ≡ name_of (judged card.now)
  pub block : part.ref_ptr.0 ≡ card.ref_ptr.0
  pub place : part.ref_ptr.1 ≡ name_at (judged card.now) + card.ref_ptr.1

-- the writer: what it hands back, and the card bytes afterwards
pub record WriteDone (name : List ℕ) (E U : ℕ) (t before : List ℕ) (r : Result ℕ Refused) (after : List ℕ) : Type 0 where
  pub answer : r ≡ write_of (length before) name E U t
  pub bytes : after ≡ card_after before r (card_of name E U t)
