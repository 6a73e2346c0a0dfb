-- Partners that are given, and a test that they are the first: for each equation e, starting from the holders of lower unknowns that e could have and going on
-- through equations from e on, e itself is never reached. A choice q that agrees before e and gives e the lower unknown of h would send those that are reached
-- one to one into themselves, so one of them has h's unknown in q; that one is e.
use mathlib.Core.Path.{◌≡◌, sym, ap, ◌∙◌}
use mathlib.Core.Bool.{Bool, true, not, ◌&&◌}
use mathlib.Core.List.{List}
use Prim.Native.Nat.{ℕ, ◌<◌, ◌≤◌}
use native.Mathlib.Omega.{arith}
use lib.Dec.{eqb, ltb, leb}
use borrow.Author.Tests.{eqb-true, eq-eqb, ltb-true, lt-ltb, le-leb}
use Rattle.laws.specs.Marks.{marked}
use Rattle.laws.proofs.Tests.{test, tests, given, clash, and_left, and_right, and_both}
use Rattle.laws.proofs.Inject.{onto}
use Rattle.pairing.specs.Pairing.{Rel}
use Rattle.pairing.specs.First.{Partners, First}
use Rattle.std.proofs.lemmas.Bool.{not-true}
use Rattle.analysis.proofs.Finite.{all, all_at}
use Rattle.laws.proofs.Closure.{closure, closure_only, closure_start, closure_closed}
use Rattle.analysis.proofs.LeastBy.{partner_of_lem}

-- h, behind e, holds a lower unknown that e could have
abbrev wants : Rel → (ℕ → ℕ) → ℕ → ℕ → Bool
wants edge p e h = ltb e h && (edge e (p h) && ltb (p h) (p e))

-- a could have the unknown of g, which is not before e
abbrev moves : Rel → (ℕ → ℕ) → ℕ → Rel
moves edge p e a g = leb e g && edge a (p g)

abbrev pub moved : ℕ → Rel → (ℕ → ℕ) → ℕ → List Bool
moved n edge p e = closure n (moves edge p e) (wants edge p e)

abbrev stays : ℕ → Rel → (ℕ → ℕ) → ℕ → Bool
stays n edge p e = not (marked (moved n edge p e) e)

abbrev pub is_first : ℕ → Rel → (ℕ → ℕ) → Bool
is_first n edge p = all n (stays n edge p)

module _ (n : ℕ) (edge : Rel) (p : ℕ → ℕ) (k : Partners n n edge p) (q : ℕ → ℕ) (j : Partners n n edge q) (e : ℕ) (h : e < n)
    (agree : (i : ℕ) → i < e → q i ≡ p i) (t : stays n edge p e ≡ true) where
  abbrev C : ℕ → Bool
  C = marked (moved n edge p e)

  from_e : (a : ℕ) → C a ≡ true → e ≤ a
  from_e = closure_only n (moves edge p e) (wants edge p e) (λ a. e ≤ a)
      (λ a b s. let l = and_left (ltb e a) (edge e (p a) && ltb (p a) (p e)) s in omega (arith, tests))
      (λ a g b c l s. let m = and_left (leb e g) (edge a (p g)) s in omega (arith, tests))

  -- whose unknown q gives to one that is not before e is not before e
  not_before : (a g : ℕ) → a < n → g < n → e ≤ a → p g ≡ q a → e ≤ g
  not_before a g b c l s = test (ltb g e)
      (λ w. let z = j.own g a c b (agree g (ltb-true g e w) ∙ s) in omega (arith, tests))
      (λ w. omega (arith, tests))

  abbrev gives : Rel
  gives a g = ltb a n && eqb (q a) (p g)

  into : (a : ℕ) → a < n → C a ≡ true → (g : ℕ) × (g < n) × (gives a g ≡ true) × (C g ≡ true)
  into a b c = given (partner_of_lem k (q a) (j.col a b)) (λ (g, l, s). (
    g,
    l,
    and_both (lt-ltb a n b) (eq-eqb (q a) (p g) (sym s)),
    closure_closed n (moves edge p e) (wants edge p e) a g b l c
        (and_both (le-leb e g (not_before a g b l (from_e a c) s)) (rw s (j.fits a b))),
  ))

  same_q : (a b : ℕ) → a < n → b < n → q a ≡ q b → a ≡ b
  same_q = j.own

  gives_is : (a g : ℕ) → gives a g ≡ true → (a < n) × (q a ≡ p g)
  gives_is a g s = (ltb-true a n (and_left (ltb a n) (eqb (q a) (p g)) s), eqb-true (q a) (p g) (and_right (ltb a n) (eqb (q a) (p g)) s))

  alone : (a b g : ℕ) → gives a g ≡ true → gives b g ≡ true → a ≡ b
  alone a b g s r = let x = gives_is a g s in let y = gives_is b g r in same_q a b x.0 y.0 (x.1 ∙ sym y.1)

  not_lower : q e < p e → ⊥
  not_lower less = given (partner_of_lem k (q e) (j.col e h)) (λ (g, l, s).
      let behind : e ≤ g = not_before e g h l (omega arith) s in
      let other : e < g = test (eqb g e) (λ w. let z : p g ≡ p e = ap p (eqb-true g e w) in absurd (omega arith)) (λ w. omega (arith, tests)) in
      let member = closure_start n (moves edge p e) (wants edge p e) g l
      (and_both (lt-ltb e g other) (and_both (rw (sym s) at (j.fits e h)) (lt-ltb (p g) (p e) (omega arith)))) in
      given (onto n C gives alone into g l member) (λ (a, b, c, r).
      let z : a ≡ e = same_q a e b h ((gives_is a g r).1 ∙ s) in
      clash (rw z at c) (not-true (C e) t)))

pub is_first_lem : (n : ℕ) (edge : Rel) (p : ℕ → ℕ) → Partners n n edge p → is_first n edge p ≡ true → First n n edge p
is_first_lem n edge p k t = record {
  ok = k;
  low = λ q j e h agree. test (leb (p e) (q e)) (λ w. omega (arith, tests))
      (λ w. absurd (not_lower n edge p k q j e h agree (all_at (stays n edge p) t e h) (omega (arith, tests))));
}
