-- Laws of what one line says, step by step as a line is read.
use mathlib.Core.Path.{◌≡◌}
use mathlib.Core.Bool.{true}
use mathlib.Core.List.{List, [], ◌∷◌}
use Prim.Native.Nat.{ℕ, zero, suc, ◌+◌, ◌-◌, ◌*◌, ◌≤◌}
use native.Mathlib.Omega.{arith}
use lib.Dec.{ltb}
use lib.ListN.{length}
use borrow.Author.Tests.{ltb-true, ltb-false}
use Rattle.laws.proofs.Tests.{test, clash}
use Rattle.card.specs.Text.{end_key, begins, is_digit, digits_of}
use Rattle.card.specs.Entry.{value_of, ended, entry_of}
use Rattle.card.proofs.TextLaws.{begins_short}

-- ---- a key in front

-- a text with a key in front is as long as the key
pub begins_length : (key text : List ℕ) → begins key text ≡ true → length key ≤ length text
begins_length key text h = test (ltb (length text) (length key)) (λ t. clash h (begins_short key text (omega (arith, ltb-true))))
    (λ f. omega (arith, ltb-false))

-- ---- numbers

digits_within : (more value took : ℕ) (s : List ℕ) → (digits_of more value took s).took ≤ took + length s
digits_within zero value took s = omega arith
digits_within (suc more) value took [] = omega arith
digits_within (suc more) value took (b ∷ s) =
    test (is_digit b) (λ d. rw d (let z = digits_within more (value * 10 + (b - 48)) (took + 1) s in omega arith)) (λ d. rw d (omega arith))

-- ---- the end line

pub entry_end : (s : List ℕ) → begins end_key s ≡ true → ended (value_of end_key s) ≡ entry_of s
entry_end s h = rw h
