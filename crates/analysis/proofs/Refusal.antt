-- The first refusal that applies, by the tests in their order, and what is known where none does.
use mathlib.Core.Path.{◌≡◌}
use mathlib.Core.Bool.{true}
use mathlib.Core.List.{List}
use Prim.Native.Nat.{ℕ, ◌*◌, ◌≤◌}
use native.Mathlib.Nat.{mul-le-mul}
use native.Mathlib.Omega.{arith}
use lib.Dec.{eqb, ltb}
use lib.ListN.{length}
use borrow.Author.Tests.{eqb-true, ltb-false, eq-eqb}
use Rattle.laws.proofs.Tests.{test, tests, and_both}
use Rattle.table.specs.Model.{in_limits, well_sized, first_above, rows_of, Bounded}
use Rattle.table.proofs.Model.{limits, above_most, rows_bounded}
use Rattle.analysis.specs.Outcome.{answer_bytes, refusal, refusal_place}

-- what was not refused
pub record Accepted (E U : ℕ) (t : List ℕ) (room : ℕ) : Type 0 where
  pub inside : in_limits E U ≡ true
  pub bytes : length t ≡ E * U
  pub roomy : answer_bytes ≤ room
  pub codes : first_above t ≡ length t

pub accepted : (E U : ℕ) (t : List ℕ) (room : ℕ) → refusal E U t room ≡ 0 → Accepted E U t room
accepted E U t room z = test (in_limits E U)
    (λ a. test (eqb (length t) (E * U))
    (λ b. test (ltb room answer_bytes)
    (λ c. absurd (omega (arith, rw (a, b, c) at z)))
    (λ c. test (ltb (first_above t) (length t))
    (λ d. absurd (omega (arith, rw (a, b, c, d) at z)))
    (λ d. record {
      inside = a;
      bytes = eqb-true (length t) (E * U) b;
      roomy = ltb-false room answer_bytes c;
      codes = let m = above_most t in omega (arith, tests);
    })))
    (λ b. absurd (omega (arith, rw (a, b) at z))))
    (λ a. absurd (omega (arith, rw a at z)))

-- what the rows of a table are that was not refused
pub well_sized_lem : {E U : ℕ} {t : List ℕ} {room : ℕ} → Accepted E U t room → well_sized E U t ≡ true
well_sized_lem {E} {U} {t} a = and_both a.inside (eq-eqb (length t) (E * U) a.bytes)

pub judged_rows : {E U : ℕ} {t : List ℕ} {room : ℕ} → Accepted E U t room → Bounded E U (rows_of E U t)
judged_rows {E} {U} {t} a = rows_bounded E U t (well_sized_lem a) a.codes

pub ready : (E U : ℕ) (t : List ℕ) (room : ℕ) (rows : List (List ℕ)) → refusal E U t room ≡ 0 → rows ≡ rows_of E U t
    → Bounded E U rows × (answer_bytes ≤ room)
ready E U t room rows z e = let a = accepted E U t room z in (rw e (judged_rows a), a.roomy)

-- the place of a refusal takes two bytes at most
pub place_fits : (E U : ℕ) (t : List ℕ) (room : ℕ) → refusal_place (refusal E U t room) t ≤ 65535
place_fits E U t room = test (in_limits E U)
    (λ a. test (eqb (length t) (E * U))
    (λ b. let m = above_most t in
    let l = limits E U a in let p = mul-le-mul l.0.high l.1.high in
    let few : first_above t ≤ 65535 = omega (arith, tests) in
    test (eqb (refusal E U t room) 4) (λ f. rw f few) (λ f. rw f (omega arith)))
    (λ b. rw (a, b) (omega arith)))
    (λ a. rw a (omega arith))
