-- Laws of the three texts: their parts, one behind another, and how long each is at most.
use mathlib.Core.Path.{◌≡◌}
use mathlib.Core.List.{List, [], ◌∷◌, ◌++◌, append_assoc}
use Prim.Native.Nat.{ℕ, suc, ◌+◌, ◌*◌, ◌/◌, ◌≤◌, ◌<◌}
use native.Mathlib.Omega.{arith}
use lib.Dec.{ltb}
use lib.ListN.{length, length-append}
use borrow.Author.Tests.{lt-ltb, le-ltb}
use Rattle.laws.specs.Text.{bytes}
use Rattle.laws.proofs.Tests.{test}
use Rattle.table.specs.Model.{limit}
use Rattle.card.specs.Text.{LF, digit_of, dec}
use Rattle.card.specs.Laid.{LaidOn}
use Rattle.card.proofs.PutLaws.{laid_on_then, dec_short}
use Rattle.card.specs.declared.put.Sheet.{Sheet}
use Rattle.analysis.specs.Outcome.{rank_in, index_in, freedom_in}
use Rattle.report.specs.Printed.{field, further, joined, commas, or_none, blocks_of, place_dec, refused_text}
use Rattle.report.specs.Steps.{used_in, strip_in, singular_text, solvable_text, head_text}
use Rattle.report.proofs.ListLaws.{used_within}

-- ---- how long

further_short : (split : ℕ → ℕ) (l : List ℕ) → length (further split l) ≤ 5 * length l
further_short split [] = omega arith
further_short split (x ∷ l) = rw (length-append (dec x) (further (λ i. split (suc i)) l)) (omega (arith, dec_short x, further_short (λ i. split (suc i)) l))

pub joined_short : (split : ℕ → ℕ) (l : List ℕ) → length (joined split l) ≤ 5 * length l
joined_short split [] = omega arith
joined_short split (x ∷ l) = rw (length-append (dec x) (further split l)) (omega (arith, dec_short x, further_short split l))

pub none_short : (l : List ℕ) → length (or_none l) ≤ 5 * length l + 4
none_short [] = omega arith
none_short (x ∷ l) = omega (arith, joined_short (λ _. 44) (x ∷ l))

pub used_short : (l : List ℕ) → length (or_none (used_in l)) ≤ 5 * length l + 4
used_short l = omega (arith, none_short (used_in l), used_within l)

pub place_short : (n : ℕ) → length (place_dec n) ≤ 5
unfolding place_dec
place_short n = test (ltb n 10000) (λ t. rw t (omega (arith, dec_short n))) (λ t. rw t (omega arith))

-- ---- the parts

-- the first two lines, and those behind them
head_then : (name verdict rest : List ℕ) {a b c : Sheet} → LaidOn a (head_text name verdict) b → LaidOn b rest c
    → LaidOn a (field "rig=" name ++ (field "verdict=" verdict ++ rest)) c
head_then name verdict rest p q = rw (append_assoc (field "rig=" name) (field "verdict=" verdict) rest) at (laid_on_then p q)

pub solvable_laid : (name : List ℕ) (n number : ℕ) (answer : List ℕ) {index freedom : ℕ} {a b c d e : Sheet}
    → index ≡ index_in number → freedom ≡ freedom_in number → LaidOn a (head_text name (bytes "solvable")) b
    → LaidOn b (field "index=" (dec index)) c → LaidOn c (field "freedom=" (dec freedom)) d
    → LaidOn d (field "counts=" (commas (strip_in 0 n answer)) ++ (field "tops=" (commas (strip_in 1 n answer)) ++ (field "pairs=" (commas (strip_in 2 n answer))
    ++ field "blocks=" (blocks_of (strip_in 3 n answer) (strip_in 4 n answer))))) e
    → LaidOn a (solvable_text name n number answer) e
unfolding solvable_text
solvable_laid name n number answer f g p q r s = head_then name (bytes "solvable") _ p (laid_on_then (rw f at q) (laid_on_then (rw g at r) s))

pub singular_laid : (name : List ℕ) (number : ℕ) (answer : List ℕ) {rank : ℕ} {a b c d e : Sheet} → rank ≡ rank_in number
    → LaidOn a (head_text name (bytes "singular")) b → LaidOn b (field "rank=" (dec rank)) c
    → LaidOn c (field "surplus=" (or_none (used_in (strip_in 0 limit answer)))) d → LaidOn d (field "unfixed=" (or_none (used_in (strip_in 1 limit answer)))) e
    → LaidOn a (singular_text name number answer) e
unfolding singular_text
singular_laid name number answer f p q r s = head_then name (bytes "singular") _ p (laid_on_then (rw f at q) (laid_on_then r s))

pub refused_laid : (number place : ℕ) {a b c d e : Sheet} → LaidOn a (field "refused=" (dec number)) b
    → LaidOn b (bytes "place=") c → LaidOn c (place_dec place) d → LaidOn d (LF ∷ []) e → LaidOn a (refused_text number place) e
unfolding refused_text
refused_laid number place p q r s = laid_on_then p (laid_on_then q (laid_on_then r s))

-- a place of up to four digits, and of five
pub place_four : (n : ℕ) → n < 10000 → dec n ≡ place_dec n
unfolding place_dec
place_four n h = rw (lt-ltb n 10000 h)

pub place_five : (n : ℕ) {d₁ d₂ d₃ d₄ d₅ : ℕ} → 10000 ≤ n
    → d₁ ≡ digit_of (n / 10000) → d₂ ≡ digit_of (n / 1000) → d₃ ≡ digit_of (n / 100) → d₄ ≡ digit_of (n / 10) → d₅ ≡ digit_of n
    → d₁ ∷ d₂ ∷ d₃ ∷ d₄ ∷ d₅ ∷ [] ≡ place_dec n
unfolding place_dec
place_five n h p q r s t = rw (le-ltb n 10000 h, ← p, ← q, ← r, ← s, ← t)
