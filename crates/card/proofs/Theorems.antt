-- What the promises of `read`, `write` and `name_of` come to: one outcome each, which inputs are good, what succeeds and what a refusal leaves alone,
-- both round trips, and the bounds of every number. Each goes by the cases of `judged`, or by the writer's tests one after another.
use mathlib.Core.Path.{◌≡◌, refl, ap, sym, ◌∙◌}
use mathlib.Core.Bool.{◌&&◌}
use mathlib.Core.List.{List, ◌++◌}
use mathlib.Core.Logic.{◌↔◌}
use Prim.Native.Nat.{ℕ, ◌+◌, ◌*◌, ◌≤◌, ◌<◌}
use native.Mathlib.Omega.{arith}
use denote.Ref.{Bor}
use lib.Dec.{leb, ltb, eqb}
use lib.ListN.{length, take, drop, length-append}
use lib.Seq.{take_at}
use borrow.Author.Tests.{eqb-true, le-ltb, le-leb, ltb-false, leb-true}
use Rattle.laws.proofs.Tests.{test, and_left, and_right}
use Rattle.table.specs.Model.{limit, in_limits, first_above}
use Rattle.table.proofs.Model.{limits, above_most}
use Rattle.std.specs.List.{list_all}
use Rattle.card.specs.Entry.{name_byte, good_name}
use Rattle.card.specs.Card.{Judged, refused, good, judged, read_of, table_of, name_of, name_at, card_of, wrote_none, card_after}
use Rattle.std.specs.Prelude.{Result, Ok, Err}
use Rattle.card.specs.Refusal.{refusal_number, refused_at, refused_number, refused_place, read_equations, read_unknowns, written_length}
use Rattle.card.specs.declared.refusal.Refusal.{Refusal}
use Rattle.card.specs.declared.refusal.Refusal.TheVariants.{Shape, Name, Limits, OutOfRange, NotAfter, EndNumber, TableRoom, CardRoom, TableLength, Code}
use Rattle.card.specs.declared.refusal.Refused.{Refused}
use Rattle.card.specs.declared.Size.{Size}
use Rattle.card.specs.Promise.{WriteGood, IsCard, ReadDone, NamePart, WriteDone}
use Rattle.card.proofs.ListLaws.{cells_within}
use Rattle.card.proofs.Written.{written_good}
use Rattle.card.proofs.Readable.{card_text, good_card}
use Rattle.card.proofs.Longest.{longest, card_length}
use Rattle.card.proofs.Places.{places}

-- ---- one outcome each

pub read_one : {s before after after' : List ℕ} {r r' : Result Size Refused} → ReadDone s before r after → ReadDone s before r' after' → (r ≡ r') × (after ≡ after')
read_one k l = (k.answer ∙ sym l.answer, k.bytes ∙ sym l.bytes)

pub write_one : {name t before after after' : List ℕ} {E U : ℕ} {r r' : Result ℕ Refused} → WriteDone name E U t before r after → WriteDone name E U t before
    r' after' → (r ≡ r') × (after ≡ after')
write_one {name} {t} {before} {after} {after'} {E} {U} k l =
    let e = k.answer ∙ sym l.answer in
    (e, k.bytes ∙ ap (λ w. card_after before w (card_of name E U t)) e ∙ sym l.bytes)

-- the part's bytes and its place; its ghost name is no part of the outcome
pub name_one : {card part part' : Bor (List ℕ)} → NamePart card part → NamePart card part' → (part.now ≡ part'.now) ×
    (part.ref_ptr.0 ≡ part'.ref_ptr.0) × (part.ref_ptr.1 ≡ part'.ref_ptr.1)
name_one k l = (k.bytes ∙ sym l.bytes, k.block ∙ sym l.block, k.place ∙ sym l.place)

-- ---- which inputs are good

-- an input is good exactly if it is the card of some good name, E, U and table, and then it says those
pub good_exactly : (s name : List ℕ) (E U : ℕ) (t : List ℕ) → (judged s ≡ good name E U t) ↔ IsCard s name E U t
good_exactly s name E U t = (good_card s name E U t, λ k. ap judged k.bytes ∙ written_good name E U t k.fine)

-- what is said of a good input
pub record Says (s : List ℕ) : Type 0 where
  pub name : List ℕ
  pub E : ℕ
  pub U : ℕ
  pub t : List ℕ
  pub is : judged s ≡ good name E U t

-- ---- reading

-- a good card with room for its table is read: its E and U, and its codes in front of what stood behind them
pub read_succeeds : {s name t before after : List ℕ} {E U : ℕ} {r : Result Size Refused} → IsCard s name E U t → E * U ≤ length before → ReadDone s before r after
    → (r ≡ Ok (record { equations = E; unknowns = U })) × (after ≡ t ++ drop (E * U) before)
read_succeeds {s} {name} {t} {before} {after} {E} {U} i h k =
    let j = (good_exactly s name E U t).1 i in
    let l = le-ltb (length before) (E * U) h in
    (k.answer ∙ rw (j, l), k.bytes ∙ rw (j, l))

-- number 0: the card is good, there is room, and these are the answer and the bytes
pub record ReadGood (s before : List ℕ) (r : Result Size Refused) (after : List ℕ) : Type 0 where
  pub says : Says s
  pub card : IsCard s says.name says.E says.U says.t
  pub equations : read_equations r ≡ says.E
  pub unknowns : read_unknowns r ≡ says.U
  pub room : says.E * says.U ≤ length before
  pub bytes : after ≡ says.t ++ drop (says.E * says.U) before
  pub sized : length says.t ≡ says.E * says.U

-- a refusal has no number 0
pub some_number : (m : Refusal) → 0 < refusal_number m
some_number TableLength = omega arith
some_number Code = omega arith
some_number Shape = omega arith
some_number Name = omega arith
some_number Limits = omega arith
some_number OutOfRange = omega arith
some_number NotAfter = omega arith
some_number EndNumber = omega arith
some_number TableRoom = omega arith
some_number CardRoom = omega arith

pub read_good : {s before after : List ℕ} {r : Result Size Refused} → ReadDone s before r after → refused_number r ≡ 0 → ReadGood s before r after
read_good {s} {before} {after} {r} k z = go (judged s) refl
  where
    go : (j : Judged) → judged s ≡ j → ReadGood s before r after
    go (refused m) p =
        let a : r ≡ Err m = k.answer ∙ ap (read_of (length before)) p in
        let b : refused_number r ≡ refusal_number m.refusal = ap refused_number a in
        absurd (omega (arith, some_number m.refusal))
    go (good name E U t) p =
        let a : r ≡ read_of (length before) (good name E U t) = k.answer ∙ ap (read_of (length before)) p in
        let i = good_card s name E U t p in
        test (ltb (length before) (E * U))
        (λ h. let d : refused_number r ≡ 17 = ap refused_number (rw h at a) in absurd (omega arith))
        (λ h.
        let room = ltb-false (length before) (E * U) h in
        let (d, b) = read_succeeds i room k in
        record {
          says = record { name = name; E = E; U = U; t = t; is = p };
          card = i;
          equations = ap read_equations d;
          unknowns = ap read_unknowns d;
          room = room;
          bytes = b;
          sized = eqb-true (length t) (E * U) i.fine.sized;
        })

-- any other number: no table byte has changed, and E and U are 0
pub read_refused : {s before after : List ℕ} {r : Result Size Refused} → ReadDone s before r after → (refused_number r ≡ 0 → ⊥)
    → (after ≡ before) × (read_equations r ≡ 0) × (read_unknowns r ≡ 0)
read_refused {s} {before} {after} {r} k n = go (judged s) refl
  where
    go : (j : Judged) → judged s ≡ j → (after ≡ before) × (read_equations r ≡ 0) × (read_unknowns r ≡ 0)
    go (refused m) p =
        let a : r ≡ Err m = k.answer ∙ ap (read_of (length before)) p in
        (k.bytes ∙ ap (table_of before) p, ap read_equations a, ap read_unknowns a)
    go (good name E U t) p =
        let a : r ≡ read_of (length before) (good name E U t) = k.answer ∙ ap (read_of (length before)) p in
        let c : after ≡ table_of before (good name E U t) = k.bytes ∙ ap (table_of before) p in
        test (ltb (length before) (E * U))
        (λ h. let d : r ≡ Err (refused_at TableRoom 0) = rw h at a in (rw h at c, ap read_equations d, ap read_unknowns d))
        (λ h. let d : r ≡ Ok (record { equations = E; unknowns = U }) = rw h at a in absurd (n (ap refused_number d)))

-- the bounds by which every answer fits what is printed and packed; a place is at most the input's length, too
pub record ReadFits (s : List ℕ) (r : Result Size Refused) : Type 0 where
  pub number : refused_number r ≤ 17
  pub place : refused_place r ≤ longest
  pub within : refused_place r ≤ length s
  pub equations : read_equations r ≤ limit
  pub unknowns : read_unknowns r ≤ limit

pub read_fits : {s before after : List ℕ} {r : Result Size Refused} → ReadDone s before r after → ReadFits s r
read_fits {s} {before} {after} {r} k = go (judged s) refl
  where
    at_most : {x : Result Size Refused} → r ≡ x → ReadFits s x → ReadFits s r
    at_most e f = rw e f

    go : (j : Judged) → judged s ≡ j → ReadFits s r
    go (refused m) p =
        let l = places s m p in
        at_most (k.answer ∙ ap (read_of (length before)) p) (record
        { number = let h = l.to in omega arith; place = l.place; within = l.within; equations = omega arith; unknowns = omega arith })
    go (good name E U t) p =
        let a : r ≡ read_of (length before) (good name E U t) = k.answer ∙ ap (read_of (length before)) p in
        let i = good_card s name E U t p in
        let b = limits E U i.fine.limits in
        test (ltb (length before) (E * U))
        (λ h. at_most (rw h at a) (record { number = omega arith; place = omega arith; within = omega arith; equations = omega arith; unknowns = omega arith }))
        (λ h. at_most (rw h at a) (record { number = omega arith; place = omega arith; within = omega arith; equations = b.0.high; unknowns = b.1.high }))

-- ---- writing

-- a good name and table with room for their card are written: the card's length, and the card in front of what stood behind it
pub write_succeeds : {name t before after : List ℕ} {E U : ℕ} {r : Result ℕ Refused} → WriteGood name E U t → length (card_of name E U t) ≤ length before
    → WriteDone name E U t before r after
    → (r ≡ Ok (length (card_of name E U t))) × (after ≡ card_of name E U t ++ drop (length (card_of name E U t)) before)
write_succeeds {name} {t} {before} {after} {E} {U} {r} g h k =
    let e : r ≡ Ok (length (card_of name E U t))
    = k.answer ∙ rw (g.named, g.limits, g.sized, g.codes, le-leb (length (card_of name E U t)) (length before) h) in
    (e, k.bytes ∙ ap (λ x. card_after before x (card_of name E U t)) e)

-- any other number: no card byte has changed
pub write_refused : {name t before after : List ℕ} {E U : ℕ} {r : Result ℕ Refused} → WriteDone name E U t before r after → (refused_number r ≡ 0 → ⊥) → after ≡ before
write_refused {name} {t} {before} {after} {E} {U} {r} k n = k.bytes ∙ go r n
  where
    go : (r : Result ℕ Refused) → (refused_number r ≡ 0 → ⊥) → card_after before r (card_of name E U t) ≡ before
    go (Ok m) n = absurd (n refl)
    go (Err m) n = refl

-- the bounds by which every answer of the writer fits what is printed and packed
pub record WriteFits (r : Result ℕ Refused) : Type 0 where
  pub number : refused_number r ≤ 18
  pub place : refused_place r ≤ longest
  pub length_fits : written_length r ≤ longest

pub write_fits : {name t before after : List ℕ} {E U : ℕ} {r : Result ℕ Refused} → WriteDone name E U t before r after → WriteFits r
write_fits {name} {t} {before} {after} {E} {U} {r} k =
    test (good_name name)
    (λ a. test (in_limits E U)
    (λ b. test (eqb (length t) (E * U))
    (λ c. test (eqb (first_above t) (length t))
    (λ d. test (leb (length (card_of name E U t)) (length before))
    (λ e. at_most (rw (a, b, c, d, e) at k.answer)
    (record { number = omega arith; place = omega arith; length_fits = card_length name E U t (record { named = a; limits = b; sized = c; codes = d }) }))
    (λ e. none_fits (rw (a, b, c, d, e) at k.answer) (omega arith) (omega arith)))
    (λ d. none_fits (rw (a, b, c, d) at k.answer) (omega arith)
    (let f = above_most t in let s = eqb-true (length t) (E * U) c in let m = cells_within E U b in omega arith)))
    (λ c. none_fits (rw (a, b, c) at k.answer) (omega arith) (omega arith)))
    (λ b. none_fits (rw (a, b) at k.answer) (omega arith) (omega arith)))
    (λ a. none_fits (rw a at k.answer) (omega arith) (omega arith))
  where
    at_most : {x : Result ℕ Refused} → r ≡ x → WriteFits x → WriteFits r
    at_most e f = rw e f

    none_fits : {m : Refusal} {at : ℕ} → r ≡ wrote_none m at → refusal_number m ≤ 18 → at ≤ longest → WriteFits r
    none_fits e f g = at_most e (record { number = f; place = g; length_fits = omega arith })

-- ---- the name question

-- the name of a good card has 1 to 24 bytes, and a name that is asked for has no more
pub name_length : (s name : List ℕ) (E U : ℕ) (t : List ℕ) → judged s ≡ good name E U t → (1 ≤ length name) × (length name ≤ 24)
name_length s name E U t p =
    let l = leb 1 (length name) in
    let h = leb (length name) 24 in
    let b = and_left (l && h) (list_all name_byte name) (good_card s name E U t p).fine.named in
    (leb-true 1 (length name) (and_left l h b), leb-true (length name) 24 (and_right l h b))

pub name_fits : (s : List ℕ) → length (name_of (judged s)) ≤ 24
name_fits s = go (judged s) refl
  where
    go : (j : Judged) → judged s ≡ j → length (name_of j) ≤ 24
    go (refused m) p = omega arith
    go (good name E U t) p = (name_length s name E U t p).1

-- what it gives are the bytes that stand in the card at the part's place
pub record NameLies (s : List ℕ) : Type 0 where
  pub within : name_at (judged s) + length (name_of (judged s)) ≤ length s
  pub bytes : take (length (name_of (judged s))) (drop (name_at (judged s)) s) ≡ name_of (judged s)

pub name_lies : (s : List ℕ) → NameLies s
name_lies s = go (judged s) refl
  where
    go : (j : Judged) → judged s ≡ j → NameLies s
    go (refused m) p = record { within = rw p (omega arith); bytes = rw p }
    go (good name E U t) p =
        let e = (good_card s name E U t p).bytes ∙ sym (card_text name E U t) in
        record {
          within = rw p (omega (arith, simp length-append at (ap length e)));
          bytes = rw p (ap (λ x. take (length name) (drop 4 x)) e ∙ take_at name _ (length name) refl);
        }

-- of a good card it is the name
pub name_succeeds : {card part : Bor (List ℕ)} {name t : List ℕ} {E U : ℕ} → IsCard card.now name E U t → NamePart card part → part.now ≡ name
name_succeeds {card} {part} {name} {t} {E} {U} i k = k.bytes ∙ ap name_of ((good_exactly card.now name E U t).1 i)

-- ---- there and back

moved : {name name' t t' before after : List ℕ} {E E' U U' : ℕ} {w : Result ℕ Refused} → name' ≡ name → E' ≡ E → U' ≡ U → t' ≡ t → WriteDone name' E' U' t'
    before w after → WriteDone name E U t before w after
moved a b c d k = rw (a, b, c, d) at k

-- a card s was read and written again: both numbers are 0, the length is that of s, and the bytes are s in front of what stood behind them
pub record CardAgain (s before : List ℕ) (read written long : ℕ) (after : List ℕ) : Type 0 where
  pub good_read : read ≡ 0
  pub good_written : written ≡ 0
  pub same_length : long ≡ length s
  pub same_bytes : after ≡ s ++ drop (length s) before

-- with room enough, a good card read and written again has the same bytes
pub card_again : {card part : Bor (List ℕ)} {name t table table' before after : List ℕ} {E U : ℕ} {r : Result Size Refused} {w : Result ℕ Refused}
    → IsCard card.now name E U t → E * U ≤ length table → length card.now ≤ length before
    → ReadDone card.now table r table' → NamePart card part
    → WriteDone part.now (read_equations r) (read_unknowns r) (take (read_equations r * read_unknowns r) table') before w after
    → CardAgain card.now before (refused_number r) (refused_number w) (written_length w) after
card_again {card} {part} {name} {t} {table} {table'} {before} {after} {E} {U} {r} {w} i h h' k n l =
    let (a, b) = read_succeeds i h k in
    let c : take (read_equations r * read_unknowns r) table' ≡ t = rw (a, b) (take_at t (drop (E * U) table) (E * U) (eqb-true (length t) (E * U) i.fine.sized)) in
    let v = moved (name_succeeds i n) (ap read_equations a) (ap read_unknowns a) c l in
    let (d, e) = write_succeeds i.fine (rw i.bytes at h') v in
    record {
      good_read = ap refused_number a;
      good_written = ap refused_number d;
      same_length = rw i.bytes (ap written_length d);
      same_bytes = rw i.bytes e;
    }

-- a name and a table t were written and read again: both numbers are 0, E and U are the same, the codes are t in front of what stood behind them,
-- and the part is the name
pub record TableAgain (name : List ℕ) (E U : ℕ) (t table : List ℕ) (written read equations unknowns : ℕ) (after part : List ℕ) : Type 0 where
  pub good_written : written ≡ 0
  pub good_read : read ≡ 0
  pub same_E : equations ≡ E
  pub same_U : unknowns ≡ U
  pub same_codes : after ≡ t ++ drop (E * U) table
  pub same_name : part ≡ name

-- with room enough, a good table and name written and read again come back the same
pub table_again : {card part : Bor (List ℕ)} {name t table table' before after : List ℕ} {E U : ℕ} {r : Result Size Refused} {w : Result ℕ Refused}
    → WriteGood name E U t → length (card_of name E U t) ≤ length before → E * U ≤ length table
    → WriteDone name E U t before w after → card.now ≡ take (written_length w) after → ReadDone card.now table r table' → NamePart card part
    → TableAgain name E U t table (refused_number w) (refused_number r) (read_equations r) (read_unknowns r) table' part.now
table_again {card} {part} {name} {t} {table} {table'} {before} {after} {E} {U} {r} {w} g h h' k e l n =
    let (a, b) = write_succeeds g h k in
    let c = card_of name E U t in
    let i : IsCard card.now name E U t = record { bytes = e ∙ rw (a, b) (take_at c (drop (length c) before) (length c) refl); fine = g } in
    let (d, f) = read_succeeds i h' l in
    record {
      good_written = ap refused_number a;
      good_read = ap refused_number d;
      same_E = ap read_equations d;
      same_U = ap read_unknowns d;
      same_codes = f;
      same_name = name_succeeds i n;
    }
