-- A pairing with one unknown given to an equation that it leaves over; whoever held that unknown holds it no longer.
use mathlib.Core.Path.{◌≡◌, refl, sym, ◌∙◌}
use mathlib.Core.Bool.{true}
use mathlib.Core.Logic.{◌⊎◌, inl, inr}
use Prim.Native.Nat.{ℕ, ◌<◌}
use lib.Dec.{eqb}
use borrow.Author.Tests.{eqb-true, eqb-false, eq-eqb, ne_eqb}
use Rattle.laws.specs.Tab.{pick}
use Rattle.laws.proofs.Tests.{test, either}
use Rattle.pairing.specs.Pairing.{Rel, Pairing, LeftOver}

-- R is Q with unknown u given to a
pub record Given (Q R : Rel) (a u : ℕ) : Type 0 where
  pub here : R a u ≡ true
  pub cases : (g v : ℕ) → R g v ≡ true → ((v ≡ u) × (g ≡ a)) ⊎ ((v ≡ u → ⊥) × (Q g v ≡ true))
  pub other : (g v : ℕ) → (v ≡ u → ⊥) → Q g v ≡ true → R g v ≡ true

-- to an equation that holds nothing: a pairing again
pub given_pairing : {m n : ℕ} {edge Q R : Rel} {a u : ℕ} → Pairing m n edge Q → LeftOver Q a → a < m → u < n → edge a u ≡ true → Given Q R a u
    → Pairing m n edge R
given_pairing k free inside within fits x = record {
  row = λ g v t. either (x.cases g v t) (λ (p, q). rw q inside) (λ (p, q). k.row g v q);
  col = λ g v t. either (x.cases g v t) (λ (p, q). rw p within) (λ (p, q). k.col g v q);
  fits = λ g v t. either (x.cases g v t) (λ (p, q). rw (p, q) fits) (λ (p, q). k.fits g v q);
  one_u = λ g v w s t. either (x.cases g v s)
      (λ (p, q). either (x.cases g w t) (λ (p', q'). p ∙ sym p') (λ (p', q'). absurd (free w (rw q at q'))))
      (λ (p, q). either (x.cases g w t) (λ (p', q'). absurd (free v (rw q' at q))) (λ (p', q'). k.one_u g v w q q'));
  one_e = λ g f v s t. either (x.cases g v s)
      (λ (p, q). either (x.cases f v t) (λ (p', q'). q ∙ sym q') (λ (p', q'). absurd (p' p)))
      (λ (p, q). either (x.cases f v t) (λ (p', q'). absurd (p p')) (λ (p', q'). k.one_e g f v q q'));
}

-- the relation itself
abbrev pub given_to : Rel → ℕ → ℕ → Rel
given_to Q a u g v = pick (eqb v u) (eqb g a) (Q g v)

pub given_is : (Q : Rel) (a u : ℕ) → Given Q (given_to Q a u) a u
given_is Q a u = record {
  here = rw (eq-eqb u u refl, eq-eqb a a refl);
  cases = λ g v t. test (eqb v u) (λ e. inl (eqb-true v u e, eqb-true g a (rw e at t))) (λ e. inr (eqb-false v u e, rw e at t));
  other = λ g v ne t. rw (ne_eqb v u ne) t;
}
