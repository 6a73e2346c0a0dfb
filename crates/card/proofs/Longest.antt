-- The longest card has 14,847 bytes, and every place of a refusal is at most that, whatever the input's length:
-- the lines before a place are those of different pairs, each at most as long as its pair's line can be.
use mathlib.Core.Path.{◌≡◌, refl, ap, ◌∙◌}
use mathlib.Core.Bool.{true}
use mathlib.Core.List.{List, [], ◌∷◌}
use Prim.Native.Nat.{ℕ, zero, suc, ◌+◌, ◌-◌, ◌*◌, ◌/◌, ◌%◌, ◌≤◌, ◌<◌}
use native.Mathlib.Nat.{suc-mul}
use native.Mathlib.Omega.{arith}
use lib.Arith.{digits_div, digits_mod}
use lib.Dec.{ltb, eqb}
use lib.ListN.{length, replicate, length-append, length-drop}
use borrow.Author.Tests.{eqb-true, eqb-false, lt-ltb, leb-true}
use Rattle.laws.specs.Count.{sum}
use Rattle.laws.proofs.Sum.{sum_same, sum_mono}
use Rattle.laws.proofs.Tests.{test, and_left, and_right}
use Rattle.table.specs.Model.{limit, top_code}
use Rattle.table.proofs.Model.{limits}
use Rattle.card.specs.Text.{zeros_of, dec}
use Rattle.std.specs.List.{list_all}
use Rattle.card.specs.Card.{occurs_line, occurs_lines, occurrences, card_of}
use Rattle.card.specs.Promise.{WriteGood}
use Rattle.card.proofs.PutLaws.{dec_short}
use Rattle.card.proofs.WriteLaws.{occurs_length, good_fits}
use Rattle.card.proofs.Written.{small, codes_small}

-- ---- how long a number and a line are

abbrev pub wide : ℕ → ℕ
wide n = 4 - zeros_of n

pub dec_wide : (n : ℕ) → length (dec n) ≡ wide n
unfolding dec
dec_wide n = length-drop (zeros_of n) _

pub wide_two : (n : ℕ) → n < 100 → wide n ≤ 2
wide_two n h = test (ltb n 10) (λ a. rw a (omega arith)) (λ a. rw (a, lt-ltb n 100 h) (omega arith))

pub wide_one : (n : ℕ) → n < 10 → wide n ≡ 1
wide_one n h = rw (lt-ltb n 10 h)

-- an occurs line with its LF, by the byte of its pair
unfoldable pub weight : ℕ → ℕ → ℕ
weight U c = wide (c / U + 1) + wide (c % U + 1) + 11

-- ---- sums

pub sum_more : (n m : ℕ) (f : ℕ → ℕ) → n ≤ m → sum n f ≤ sum m f
sum_more n zero f h = let z : n ≡ 0 = omega arith in rw z (omega arith)
sum_more n (suc m) f h = test (eqb n (suc m)) (λ t. let z : n ≡ suc m = eqb-true n (suc m) t in rw z (omega arith))
    (λ t. let k = sum_more n m f (let z = eqb-false n (suc m) t in omega arith) in omega arith)

sum_split : (a b : ℕ) (f : ℕ → ℕ) → sum (a + b) f ≡ sum b (λ i. f (a + i)) + sum a f
sum_split a zero f = let z : a + 0 ≡ a = omega arith in rw z (omega arith)
sum_split a (suc b) f = let z : a + suc b ≡ suc (a + b) = omega arith in rw z (let k = sum_split a b f in omega arith)

-- a sum over the table's bytes, row by row
sum_rows : (E U : ℕ) (f : ℕ → ℕ) → sum (E * U) f ≡ sum E (λ e. sum U (λ u. f (e * U + u)))
sum_rows zero U f = let z : 0 * U ≡ 0 = omega arith in rw z
sum_rows (suc E) U f = rw (suc-mul E U) (sum_split (E * U) U f ∙ ap (λ x. sum U (λ u. f (E * U + u)) + x) (sum_rows E U f))

-- all lines of the largest table
abbrev most : ℕ → ℕ → ℕ
most e u = wide (e + 1) + wide (u + 1) + 11

abbrev pub all_lines : ℕ
all_lines = 14784

largest : sum limit (λ e. sum limit (most e)) ≡ all_lines
largest = refl

pub weights : (E U : ℕ) → E ≤ limit → U ≤ limit → sum (E * U) (weight U) ≤ all_lines
unfolding weight
weights E U a b =
    let rows : sum (E * U) (weight U) ≡ sum E (λ e. sum U (most e))
    = sum_rows E U (weight U) ∙ sum_same E (λ e. sum U (λ u. weight U (e * U + u))) (λ e. sum U (most e))
    (λ e h. sum_same U (λ u. weight U (e * U + u)) (most e) (λ u k. rw (digits_div e {m = U} {r = u} k, digits_mod e {m = U} {r = u} k))) in
    let one : sum E (λ e. sum U (most e)) ≤ sum E (λ e. sum limit (most e)) = sum_mono E (λ e. sum U (most e)) (λ e. sum limit (most e))
    (λ e h. sum_more U limit (most e) b) in
    let two : sum E (λ e. sum limit (most e)) ≤ sum limit (λ e. sum limit (most e)) = sum_more E limit (λ e. sum limit (most e)) a in
    omega (arith, largest)

-- ---- the longest card

line_weight : (U c x : ℕ) → small x ≡ true → length (occurs_line U c x) ≤ weight U c
unfolding weight
line_weight U c x s =
    test (eqb x 0)
    (λ t. rw t (omega arith))
    (λ t. rw t (omega (
      arith,
      occurs_length (c / U + 1) (c % U + 1) (x - 1),
      dec_wide (c / U + 1),
      dec_wide (c % U + 1),
      dec_wide (x - 1),
      wide_one
          (x - 1) (let z = leb-true x top_code s in omega arith),
    )))

lines_weight : (U c : ℕ) (r : List ℕ) → list_all small r ≡ true → length (occurs_lines U c r) + sum c (weight U) ≤ sum (c + length r) (weight U)
lines_weight U c [] h = let z : c + 0 ≡ c = omega arith in rw z (omega arith)
lines_weight U c (x ∷ r) h =
    let z : c + suc (length r) ≡ c + 1 + length r = omega arith in
    let k = lines_weight U (c + 1) r (and_right (small x) (list_all small r) h) in
    let l = line_weight U c x (and_left (small x) (list_all small r) h) in
    let s : sum (c + 1) (weight U) ≡ weight U c + sum c (weight U) = ap (λ n. sum n (weight U)) (let y : c + 1 ≡ suc c = omega arith in y) in
    rw (z, length-append (occurs_line U c x) (occurs_lines U (c + 1) r)) (omega arith)

abbrev pub longest : ℕ
longest = 14847

-- no written card is longer
pub card_length : (name : List ℕ) (E U : ℕ) (t : List ℕ) → WriteGood name E U t → length (card_of name E U t) ≤ longest
unfolding card_of
card_length name E U t g =
    let b = limits E U g.limits in
    let f = good_fits g in
    let s : length t ≡ E * U = eqb-true (length t) (E * U) g.sized in
    let w = weights E U b.0.high b.1.high in
    let l = lines_weight U 0 t (codes_small t g.codes) in
    let z : 0 + length t ≡ E * U = omega arith in
    let m : length (occurs_lines U 0 t) + 0 ≤ sum (E * U) (weight U) = rw z at l in
    simp length-append (omega (
      arith,
      f.0,
      dec_wide E,
      dec_wide U,
      wide_two E (let h = b.0.high in omega arith),
      wide_two U
          (let h = b.1.high in omega arith),
      dec_short (occurrences t),
    ))

-- one is that long
pub full_name : List ℕ
full_name = replicate 24 97

pub full_table : List ℕ
full_table = replicate (limit * limit) 4

pub longest_card : (length (card_of full_name limit limit full_table) ≡ longest) × WriteGood full_name limit limit full_table
unfolding card_of dec full_name full_table
longest_card = (refl, record { named = refl; limits = refl; sized = refl; codes = refl })
