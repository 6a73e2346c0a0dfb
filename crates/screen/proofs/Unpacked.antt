-- The contracts of the card's entries, from those of `card`; and no number that is handed back is cut short: whoever takes the bytes off again
-- has the reader's, the writer's and the name question's own numbers.
use mathlib.Core.Path.{◌≡◌, refl, ap, ◌∙◌}
use mathlib.Core.List.{List}
use Prim.Native.Nat.{ℕ, ◌≤◌}
use native.Mathlib.Omega.{arith}
use lib.ListN.{length}
use Rattle.card.specs.Card.{Judged, refused, good, judged, read_of, name_of, name_at, write_of}
use Rattle.card.specs.Promise.{ReadDone, WriteDone}
use Rattle.card.specs.Refusal.{refused_number, refused_place, read_equations, read_unknowns, written_length}
use Rattle.card.specs.declared.refusal.Refused.{Refused}
use Rattle.card.specs.declared.Size.{Size}
use Rattle.std.specs.Prelude.{Result}
use Rattle.card.proofs.Theorems.{ReadFits, read_fits, WriteFits, write_fits, name_fits, name_length}
use Rattle.screen.specs.Packed.{read_number, write_number, name_number, ReadPacked, WritePacked, NamePacked}
use Rattle.screen.specs.Packed.{first_in, second_in, fourth_in, fifth_in, two_from_fourth_in}

-- ---- the contracts

-- the promise of `card` for what was packed
pub read_done : {s before after : List ℕ} {n : ℕ} → ReadPacked s before n after → ReadDone s before (read_of (length before) (judged s)) after
read_done k = record { answer = refl; bytes = k.bytes }

pub write_done : {name t before after : List ℕ} {E U n : ℕ} → WritePacked name E U t before n after
    → WriteDone name E U t before (write_of (length before) name E U t) after
write_done k = record { answer = refl; bytes = k.bytes }

-- an empty part is a refusal's
pub name_none : (s : List ℕ) {part : List ℕ} → part ≡ name_of (judged s) → length part ≡ 0 → NamePacked s 0
name_none s {part} e h = go (judged s) refl
  where
    go : (j : Judged) → judged s ≡ j → NamePacked s 0
    go (refused m) p = record { answer = rw p }
    go (good name E U t) p =
        let z : part ≡ name = e ∙ ap name_of p in
        let l = (name_length s name E U t p).0 in
        let n : length name ≡ 0 = rw z at h in
        absurd (omega arith)

-- ---- nothing is cut short

pub record ReadWhole (r : Result Size Refused) (n : ℕ) : Type 0 where
  pub number : first_in n ≡ refused_number r
  pub place : second_in n ≡ refused_place r
  pub equations : fourth_in n ≡ read_equations r
  pub unknowns : fifth_in n ≡ read_unknowns r

pub read_whole : {s before after : List ℕ} {n : ℕ} → ReadPacked s before n after → ReadWhole (read_of (length before) (judged s)) n
read_whole {s} {before} {after} {n} k = whole (read_of (length before) (judged s)) (read_fits (read_done k)) k.answer
  where
    whole : (r : Result Size Refused) → ReadFits s r → n ≡ read_number r → ReadWhole r n
    whole r f e =
        let a = f.number in let b = f.place in let c = f.equations in let d = f.unknowns in
        record { number = omega arith; place = omega arith; equations = omega arith; unknowns = omega arith }

pub record WriteWhole (r : Result ℕ Refused) (n : ℕ) : Type 0 where
  pub number : first_in n ≡ refused_number r
  pub place : second_in n ≡ refused_place r
  pub length_is : two_from_fourth_in n ≡ written_length r

pub write_whole : {name t before after : List ℕ} {E U n : ℕ} → WritePacked name E U t before n after → WriteWhole (write_of (length before) name E U t) n
write_whole {name} {t} {before} {after} {E} {U} {n} k = whole (write_of (length before) name E U t) (write_fits (write_done k)) k.answer
  where
    whole : (r : Result ℕ Refused) → WriteFits r → n ≡ write_number r → WriteWhole r n
    whole r f e =
        let a = f.number in let b = f.place in let c = f.length_fits in
        record { number = omega arith; place = omega arith; length_is = omega arith }

pub record NameWhole (s : List ℕ) (n : ℕ) : Type 0 where
  pub long : first_in n ≡ length (name_of (judged s))
  pub place : second_in n ≡ name_at (judged s)

pub name_whole : {s : List ℕ} {n : ℕ} → NamePacked s n → NameWhole s n
name_whole {s} {n} k =
    let (a, b) = go (judged s) k.answer (name_fits s) in
    record { long = a; place = b }
  where
    go : (j : Judged) → n ≡ name_number j → length (name_of j) ≤ 24 → (first_in n ≡ length (name_of j)) × (second_in n ≡ name_at j)
    go (refused m) q l = (omega arith, omega arith)
    go (good name E U t) q l = (omega arith, omega arith)
