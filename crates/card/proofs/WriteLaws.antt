-- Laws of the written card: its lines laid one behind another, and how long each is.
use mathlib.Core.Path.{◌≡◌, refl, ap, sym, ◌∙◌}
use mathlib.Core.Bool.{not, ◌&&◌}
use mathlib.Core.List.{List, [], ◌∷◌, ◌++◌, append_assoc, append-nil}
use Prim.Native.Nat.{ℕ, suc, ◌+◌, ◌-◌, ◌*◌, ◌/◌, ◌%◌, ◌≤◌, ◌<◌}
use native.Mathlib.Nat.{mul-le-mul_right}
use native.Mathlib.Omega.{arith}
use native.Mathlib.Numerals.{add-one}
use lib.Dec.{eqb, leb}
use lib.ListN.{length, get_or, take, length-append, length-take}
use lib.Seq.{sets, sets-eq, take-suc, length-take-le}
use borrow.Author.Tests.{le-leb, leb-true, eqb-true}
use Rattle.std.specs.List.{count_by}
use Rattle.std.proofs.lemmas.List.Recursion.{is_count_by}
use Rattle.laws.proofs.Tests.{test, and_left, and_right}
use Rattle.table.specs.Model.{limit}
use Rattle.table.proofs.Model.{limits}
use Rattle.card.specs.Text.{LF, comma, rig_key, equations_key, unknowns_key, occurs_key, end_key, dec}
use Rattle.std.specs.List.{list_all}
use Rattle.card.specs.Entry.{name_byte}
use Rattle.card.specs.Card.{line_of, occurs_line, occurs_lines, occurrences, head_lines, card_of}
use Rattle.std.specs.Prelude.{Ok}
use Rattle.card.specs.Promise.{WriteGood, WriteDone}
use Rattle.card.specs.Laid.{Laid, LaidOn}
use Rattle.card.specs.declared.put.Sheet.{Sheet}
use Rattle.card.proofs.PutLaws.{laid_on_then, dec_short}

-- the parts of an occurs line
pub occurs_parts : (e u k : ℕ)
    → (((occurs_key ++ (dec e ++ comma ∷ [])) ++ (dec u ++ comma ∷ [])) ++ dec k) ++ LF ∷ [] ≡ line_of (occurs_key ++ dec e ++ comma ∷ dec u ++ comma ∷ dec k)
occurs_parts e u k = simp append_assoc

-- an occurs line is ten bytes longer than its three numbers
pub occurs_length : (e u k : ℕ) → length (line_of (occurs_key ++ dec e ++ comma ∷ dec u ++ comma ∷ dec k)) ≡ length (dec e) + length (dec u) + length (dec k) + 10
occurs_length e u k = simp length-append (omega arith)

line_short : (U cell code : ℕ) → length (occurs_line U cell code) ≤ 22
line_short U cell code =
    test (eqb code 0)
    (λ t. rw t (omega arith))
    (λ t. rw t (omega (
      arith,
      occurs_length (cell / U + 1) (cell % U + 1) (code - 1),
      dec_short (cell / U + 1),
      dec_short (cell % U + 1),
      dec_short
          (code - 1),
    )))

-- the occurs lines are at most this long
pub lines_short : (U at : ℕ) (t : List ℕ) → length (occurs_lines U at t) ≤ 22 * length t
lines_short U at [] = omega arith
lines_short U at (x ∷ t) = rw (length-append (occurs_line U at x) (occurs_lines U (at + 1) t)) (omega (arith, line_short U at x, lines_short U (at + 1) t))

-- the lines of one list behind those of another
pub lines_append : (U at : ℕ) (xs ys : List ℕ) → occurs_lines U at (xs ++ ys) ≡ occurs_lines U at xs ++ occurs_lines U (at + length xs) ys
lines_append U at [] ys = let z : at + 0 ≡ at = omega arith in rw z
lines_append U at (x ∷ xs) ys =
    let z : at + suc (length xs) ≡ at + 1 + length xs = omega arith in
    rw (z, lines_append U (at + 1) xs ys) (sym (append_assoc (occurs_line U at x) (occurs_lines U (at + 1) xs) (occurs_lines U (at + 1 + length xs) ys)))

-- one more byte of the table, one more line
lines_step : (U : ℕ) (t : List ℕ) (cell : ℕ) → cell < length t → occurs_lines U 0 (take cell t) ++ occurs_line U cell (get_or t cell 0) ≡ occurs_lines U 0
    (take (cell + 1) t)
lines_step U t cell h =
    let x = get_or t cell 0 in
    let z : 0 + length (take cell t) ≡ cell = rw (length-take-le cell t (omega arith)) (omega arith) in
    sym (ap (occurs_lines U 0) (ap (λ n. take n t) (add-one cell) ∙ take-suc t cell 0 h)
    ∙ lines_append U 0 (take cell t) (x ∷ [])
    ∙ ap (λ n. occurs_lines U 0 (take cell t) ++ occurs_lines U n (x ∷ [])) z
    ∙ ap (λ l. occurs_lines U 0 (take cell t) ++ l) (append-nil (occurs_line U cell x)))

pub laid_line : (U : ℕ) (t : List ℕ) (cell : ℕ) {a b c : Sheet} → LaidOn a (occurs_lines U 0 (take cell t)) b → cell < length t
    → LaidOn b (occurs_line U cell (get_or t cell 0)) c → LaidOn a (occurs_lines U 0 (take (cell + 1) t)) c
laid_line U t cell p h q = rw (← lines_step U t cell h) (laid_on_then p q)

-- the occurs lines so far are at most this long
pub lines_near : (U : ℕ) (t : List ℕ) (cell : ℕ) → length (occurs_lines U 0 (take cell t)) ≤ 22 * cell
lines_near U t cell = omega (arith, lines_short U 0 (take cell t), length-take cell t)

-- how many occur, as the library counts
pub occurrences_count : (t : List ℕ) → occurrences t ≡ count_by (λ code. not (eqb code 0)) t
occurrences_count t = is_count_by occurrences (λ code. not (eqb code 0)) refl
    (λ code t. test (eqb code 0) (λ z. rw z) (λ z. rw z (omega arith))) t

-- ---- the whole card

pub card_laid : (name : List ℕ) (E U : ℕ) (t : List ℕ) {n : ℕ} {a b : Sheet} → n ≡ occurrences t
    → LaidOn a (head_lines name E U ++ occurs_lines U 0 t ++ line_of (end_key ++ dec n)) b → LaidOn a (card_of name E U t) b
unfolding card_of
card_laid name E U t e p = rw (← e) p

-- a line of a key and a number is at most this long
pub key_line_short : (key : List ℕ) (n : ℕ) → length (line_of (key ++ dec n)) ≤ length key + 5
key_line_short key n = simp length-append (omega (arith, dec_short n))

-- the first three lines are at most this long
pub head_short : (name : List ℕ) (E U : ℕ) → length name ≤ 24 → length
    (line_of (rig_key ++ name) ++ line_of (equations_key ++ dec E) ++ line_of (unknowns_key ++ dec U)) ≤ 58
head_short name E U h = simp length-append (omega (arith, dec_short E, dec_short U))

-- ---- the writer

-- what the lines need of a good name and table
pub good_fits : {name : List ℕ} {E U : ℕ} {t : List ℕ} → WriteGood name E U t → (length name ≤ 24) × (1 ≤ U) × (U ≤ limit) × (length t ≤ limit * U)
good_fits {name} {E} {U} {t} g =
    let l = limits E U g.limits in
    let s : length t ≡ E * U = eqb-true (length t) (E * U) g.sized in
    let both = and_left (leb 1 (length name) && leb (length name) 24) (list_all name_byte name) g.named in
    (leb-true (length name) 24 (and_right (leb 1 (length name)) (leb (length name) 24) both), l.1.low, l.1.high, rw s (mul-le-mul_right U l.0.high))

-- the card is written
pub write_0 : {name : List ℕ} {E U : ℕ} {t before after : List ℕ} {next : ℕ} → WriteGood name E U t → length (card_of name E U t) ≤ length before
    → Laid before 0 (card_of name E U t) after next → WriteDone name E U t before (Ok (length (card_of name E U t))) after
write_0 {name} {E} {U} {t} {before} {after} g h k =
    let z : 0 + length (card_of name E U t) ≡ length (card_of name E U t) = omega arith in
    record {
      answer = rw (g.named, g.limits, g.sized, g.codes, le-leb (length (card_of name E U t)) (length before) h);
      bytes = k.list ∙ sets-eq (card_of name E U t) before 0 (rw z h) ∙ rw z;
    }

-- nothing is laid where there is no room at all
pub laid_nothing : {after bytes : List ℕ} {i next : ℕ} → Laid [] i bytes after next → after ≡ []
laid_nothing {after} {bytes} {i} k = k.list ∙ go bytes i
  where
    go : (bs : List ℕ) (j : ℕ) → sets [] j bs ≡ []
    go [] j = refl
    go (b ∷ bs) j = go bs (suc j)
