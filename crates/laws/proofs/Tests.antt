-- Tests and cases: what a Bool tells, and how a proof goes by cases on one.
use mathlib.Core.Path.{◌≡◌, refl}
use mathlib.Core.Bool.{Bool, true, false, ◌&&◌, ◌||◌}
use mathlib.Core.Logic.{◌⊎◌, ⊎_elim, inl, inr}
use Prim.Native.Nat.{ℕ}
use native.Mathlib.Omega.{arith}
use borrow.Author.Tests.{leb-true, leb-false, ltb-true, ltb-false, eqb-true, eqb-false, le-leb, lt-leb, lt-ltb, le-ltb, eq-eqb, ne_eqb}

-- for `omega (arith, tests)`: Boolean tests of numbers are read and proved
pub ruleset tests = (leb-true, leb-false, ltb-true, ltb-false, eqb-true, eqb-false, le-leb, lt-leb, lt-ltb, le-ltb, eq-eqb, ne_eqb)

-- cases on a test, with its equation
pub test : {A : Type 0} (b : Bool) → (b ≡ true → A) → (b ≡ false → A) → A
test true t f = t refl
test false t f = f refl

-- cases on a sum, the sum first
pub either : {A B C : Type 0} → A ⊎ B → (A → C) → (B → C) → C
either s f g = ⊎_elim f g s

-- a witness taken apart by a λ
pub given : {A C : Type 0} → A → (A → C) → C
given a f = f a

pub true≢false : true ≡ false → ⊥
true≢false e = let z : ◌≡◌ {A = ℕ} 0 1 = cc in omega arith

-- a Bool that is both
pub clash : {A : Type 0} {b : Bool} → b ≡ true → b ≡ false → A
clash t f = let z : ◌≡◌ {A = ℕ} 0 1 = cc in absurd (omega arith)

pub not_true : {b : Bool} → (b ≡ true → ⊥) → b ≡ false
not_true {b} h = test b (λ t. absurd (h t)) (λ f. f)

pub not_false : {b : Bool} → (b ≡ false → ⊥) → b ≡ true
not_false {b} h = test b (λ t. t) (λ f. absurd (h f))

pub and_left : (a b : Bool) → (a && b) ≡ true → a ≡ true
and_left a b h = test a (λ t. t) (λ f. cc)

pub and_right : (a b : Bool) → (a && b) ≡ true → b ≡ true
and_right a b h = test a (λ t. cc) (λ f. clash {b = false && b} (cc) (cc))

pub and_both : {a b : Bool} → a ≡ true → b ≡ true → (a && b) ≡ true
and_both p q = cc

pub or_cases : (a b : Bool) → (a || b) ≡ true → (a ≡ true) ⊎ (b ≡ true)
or_cases a b h = test a (λ t. inl t) (λ f. inr (cc))

pub or_left : {a : Bool} (b : Bool) → a ≡ true → (a || b) ≡ true
or_left b p = cc

pub or_right : (a : Bool) {b : Bool} → b ≡ true → (a || b) ≡ true
or_right a p = test a (λ t. cc) (λ f. cc)

-- equal tests: each follows from the other
pub same_test : {a b : Bool} → (a ≡ true → b ≡ true) → (b ≡ true → a ≡ true) → a ≡ b
same_test {a} {b} f g = test a (λ t. let u = f t in cc) (λ n. test b (λ u. clash (g u) n) (λ u. cc))
