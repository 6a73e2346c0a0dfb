-- Laws of laying bytes into a card: one run behind another is one longer run, and a byte for which there is no room changes nothing.
use mathlib.Core.Path.{◌≡◌, refl, ap, ◌∙◌}
use mathlib.Core.List.{List, [], ◌∷◌, ◌++◌}
use Prim.Native.Nat.{ℕ, suc, ◌+◌, ◌-◌, ◌/◌, ◌≤◌, ◌<◌}
use native.Mathlib.Omega.{arith}
use native.Mathlib.Numerals.{add-one}
use lib.ListN.{length, get_or, take, drop, set, length-append, length-drop}
use lib.Seq.{sets, take-suc}
use borrow.Author.Rules.{part_to_end}
use Rattle.card.specs.Text.{comma, digit_of, zeros_of, dec}
use Rattle.card.specs.Laid.{Laid, LaidOn}
use Rattle.card.specs.declared.put.Sheet.{Sheet}

sets_append : (xs ys l : List ℕ) (i : ℕ) → sets (sets l i xs) (i + length xs) ys ≡ sets l i (xs ++ ys)
sets_append [] ys l i = let z : i + 0 ≡ i = omega arith in rw z
sets_append (x ∷ xs) ys l i = let z : i + suc (length xs) ≡ suc i + length xs = omega arith in rw z (sets_append xs ys (set l i x) (suc i))

-- one run behind another
pub laid_then : {a b c xs ys : List ℕ} {i j k : ℕ} → Laid a i xs b j → Laid b j ys c k → Laid a i (xs ++ ys) c k
laid_then {a} {b} {c} {xs} {ys} {i} {j} {k} p q =
    record {
      list = q.list ∙ rw (p.list, p.place) (sets_append xs ys a i);
      place = let e = p.place in let f = q.place in rw (length-append xs ys) (omega arith);
    }

pub laid_on_then : {a b c : Sheet} {xs ys : List ℕ} → LaidOn a xs b → LaidOn b ys c → LaidOn a (xs ++ ys) c
laid_on_then p q = record { same = q.same ∙ p.same; laid = laid_then p.laid q.laid }

-- a run, byte by byte
pub laid_more : (bytes : List ℕ) (i : ℕ) {a b c : Sheet} → LaidOn a (take i bytes) b → i < length bytes → LaidOn b (get_or bytes i 0 ∷ []) c
    → LaidOn a (take (i + 1) bytes) c
laid_more bytes i p h q = rw (add-one, take-suc bytes i 0 h) (laid_on_then p q)

-- ---- numbers

pub dec_short : (n : ℕ) → length (dec n) ≤ 4
unfolding dec
dec_short n = rw length-drop (omega arith)

-- a number and the comma behind it
pub comma_short : (n : ℕ) → length (dec n ++ comma ∷ []) ≤ 5
comma_short n = omega (arith, dec_short n, length-append (dec n) (comma ∷ []))

dec_is : (n : ℕ) → drop (zeros_of n) (digit_of (n / 1000) ∷ digit_of (n / 100) ∷ digit_of (n / 10) ∷ digit_of n ∷ []) ≡ dec n
unfolding dec
dec_is n = refl

-- the four digits from the first that counts
pub digits_laid : (n : ℕ) {d₁ d₂ d₃ d₄ z : ℕ} → d₁ ≡ digit_of (n / 1000) → d₂ ≡ digit_of (n / 100) → d₃ ≡ digit_of (n / 10) → d₄ ≡ digit_of n → z ≡ zeros_of n
    → take (4 - z) (drop z (d₁ ∷ d₂ ∷ d₃ ∷ d₄ ∷ [])) ≡ dec n
digits_laid n {d₁} {d₂} {d₃} {d₄} {z} p q r s t =
    part_to_end (d₁ ∷ d₂ ∷ d₃ ∷ d₄ ∷ []) z ∙ ap (drop z) four ∙ ap
    (λ k. drop k (digit_of (n / 1000) ∷ digit_of (n / 100) ∷ digit_of (n / 10) ∷ digit_of n ∷ [])) t ∙ dec_is n
  where
    four : d₁ ∷ d₂ ∷ d₃ ∷ d₄ ∷ [] ≡ digit_of (n / 1000) ∷ digit_of (n / 100) ∷ digit_of (n / 10) ∷ digit_of n ∷ []
    four = cc
