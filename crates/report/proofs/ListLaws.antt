-- Laws of lists as text: a list grows by a byte that splits and a number; and how long it is at most.
use mathlib.Core.Path.{◌≡◌, refl, ap, sym, ◌∙◌}
use mathlib.Core.List.{List, [], ◌∷◌, ◌++◌, append_assoc, append-nil}
use Prim.Native.Nat.{ℕ, suc, ◌+◌, ◌≤◌, ◌<◌}
use native.Mathlib.Omega.{arith}
use lib.Dec.{eqb, ltb}
use lib.ListN.{length, get_or, take}
use lib.Seq.{length-take-le}
use Rattle.std.specs.declared.option.Option.TheVariants.{Some, None}
use Rattle.std.specs.List.{position, position_or_len}
use Rattle.std.proofs.lemmas.List.{take_more, take_all}
use Rattle.std.proofs.lemmas.List.Recursion.{is_position_or_len}
use Rattle.laws.specs.Text.{bytes}
use Rattle.laws.proofs.Tests.{test, tests}
use Rattle.card.specs.Text.{dec}
use Rattle.analysis.specs.Outcome.{unused}
use Rattle.report.specs.Printed.{further, commas, or_none}
use Rattle.report.specs.Steps.{used_in}

-- ---- one more number

further_one : (split : ℕ → ℕ) (l : List ℕ) (x : ℕ) → further split (l ++ x ∷ []) ≡ further split l ++ (split (length l) ∷ dec x)
further_one split [] x = ap (λ t. split 0 ∷ t) (append-nil (dec x))
further_one split (y ∷ l) x =
    ap (λ t. split 0 ∷ (dec y ++ t)) (further_one (λ i. split (suc i)) l x)
    ∙ ap (λ t. split 0 ∷ t) (sym (append_assoc (dec y) (further (λ i. split (suc i)) l) (split (suc (length l)) ∷ dec x)))

pub further_more : (split : ℕ → ℕ) (l : List ℕ) (i : ℕ) → i < length l
    → further split (take (i + 1) l) ≡ further split (take i l) ++ (split i ∷ dec (get_or l i 0))
further_more split l i h =
    rw (take_more l i 0 h, further_one split (take i l) (get_or l i 0), length-take-le i l (omega arith))

-- ---- used places

used_length : (l : List ℕ) → length (used_in l) ≡ position_or_len (λ x. eqb x unused) l
used_length l = is_position_or_len (λ l. length (used_in l)) (λ x. eqb x unused) refl (λ x xs. test (eqb x unused) (λ t. rw t) (λ t. rw t (omega arith))) l

-- the used places are the first ones
used_front : (l : List ℕ) → take (length (used_in l)) l ≡ used_in l
used_front [] = refl
used_front (x ∷ l) = test (eqb x unused) (λ t. rw t) (λ t. rw t (ap (λ m. x ∷ m) (used_front l)))

pub used_within : (l : List ℕ) → length (used_in l) ≤ length l
used_within [] = omega arith
used_within (x ∷ l) = test (eqb x unused) (λ t. rw t (omega arith)) (λ t. rw t (let h = used_within l in omega arith))

pub used_before : (l : List ℕ) (n : ℕ) → position (λ x. eqb x unused) l ≡ Some n → take n l ≡ used_in l
used_before l n e = test (ltb (position_or_len (λ x. eqb x unused) l) (length l))
    (λ t. let z = rw t at e in let m : n ≡ length (used_in l) = cc (used_length l) in rw m (used_front l))
    (λ t. let z = rw t at e in cc)

pub used_all : (l : List ℕ) → position (λ x. eqb x unused) l ≡ None → l ≡ used_in l
used_all l e = test (ltb (position_or_len (λ x. eqb x unused) l) (length l))
    (λ t. let z = rw t at e in cc)
    (λ t. sym (take_all (length (used_in l)) l (omega (arith, used_length l, tests))) ∙ used_front l)

pub none_text : (l : List ℕ) → length l ≡ 0 → bytes "none" ≡ or_none l
none_text [] h = refl
none_text (x ∷ l) h = absurd (omega arith)

pub some_text : (l : List ℕ) → (length l ≡ 0 → ⊥) → commas l ≡ or_none l
some_text [] h = absurd (h refl)
some_text (x ∷ l) h = refl
