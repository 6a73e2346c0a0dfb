-- Whoever is reached from an equation that a largest pairing leaves over is itself left over by some largest pairing.
-- Induction on the way, keeping for all equations met so far a largest pairing that leaves that one over and changes only what equations met so far hold:
-- the next equation, if it is new, still holds its unknown in the pairing that leaves the one before over, and hands it to that one.
use mathlib.Core.Path.{◌≡◌, refl}
use mathlib.Core.Bool.{Bool, true, false, ◌||◌}
use Prim.Native.Nat.{ℕ, ◌<◌}
use native.Mathlib.Omega.{arith}
use lib.Dec.{eqb}
use borrow.Author.Tests.{eqb-true, eqb-false, eq-eqb}
use Rattle.laws.specs.Count.{any}
use Rattle.laws.proofs.Tests.{test, either, given, clash, not_true, not_false, or_cases, or_left, or_right}
use Rattle.laws.proofs.Search.{any_here}
use Rattle.pairing.specs.Pairing.{Rel, turn, Largest, LeftOver, Surplus}
use Rattle.pairing.specs.Holders.{Reach, start, step}
use Rattle.pairing.proofs.Give.{given_to, given_pairing, given_is}
use Rattle.pairing.proofs.Sizes.{pairing_turned, size_turned, covers, grows, as_large}

-- an equation a that Q leaves over takes u from e: each unknown that was held is held, and e is left over
module _ {m n : ℕ} {edge Q : Rel} (l : Largest m n edge Q) (a u e : ℕ) (inside : a < m) (free : LeftOver Q a) (fits : edge a u ≡ true)
    (holds : Q e u ≡ true) where
  swapped : Largest m n edge (given_to Q a u)
  swapped =
      let swap = given_pairing l.ok free inside (l.ok.col e u holds) fits (given_is Q a u) in
      let before = size_turned l.ok in
      let after = size_turned swap in
      let held = covers (turn Q) (pairing_turned swap) (λ v g t. test (eqb v u)
      (λ i. (a, rw (eqb-true v u i) (given_is Q a u).here)) (λ i. (g, (given_is Q a u).other g v (eqb-false v u i) t))) in
      as_large l swap (omega arith)

  freed : LeftOver (given_to Q a u) e
  freed v t = either ((given_is Q a u).cases e v t) (λ (p, q). free u (rw q at holds)) (λ (p, q). p (l.ok.one_u e v u q holds))

-- a largest pairing that leaves x over, in which the equations outside L hold what they hold in M, and no unknown is held that M leaves over
record Frees (m n : ℕ) (edge M : Rel) (L : ℕ → Bool) (x : ℕ) : Type 0 where
  inside : x < m
  pairs : Rel
  most : Largest m n edge pairs
  over : LeftOver pairs x
  keeps : (g v : ℕ) → L g ≡ false → M g v ≡ true → pairs g v ≡ true
  within : (g v : ℕ) → pairs g v ≡ true → (f : ℕ) × (M f v ≡ true)

-- along a way: each equation met so far is left over by a largest pairing that changed only what equations met so far hold
record Met (m n : ℕ) (edge M : Rel) (a : ℕ) : Type 0 where
  L : ℕ → Bool
  this : L a ≡ true
  frees : (x : ℕ) → L x ≡ true → Frees m n edge M L x

-- one step more, to an equation that was not met: it is left over where the one before takes its unknown
module _ {m n : ℕ} {edge M : Rel} {a : ℕ} (s : Met m n edge M a) (e u : ℕ) (inside : e < m) (fits : edge a u ≡ true)
    (holds : M e u ≡ true) (new : s.L e ≡ false) where
  longer : ℕ → Bool
  longer x = eqb x e || s.L x

  outside : (g : ℕ) → longer g ≡ false → (g ≡ e → ⊥) × (s.L g ≡ false)
  unfolding longer
  outside g f = (λ i. clash (or_left (s.L g) (eq-eqb g e i)) f, not_true (λ t. clash (or_right (eqb g e) t) f))

  last : Frees m n edge M s.L a → Frees m n edge M longer e
  last q = let had = q.keeps e u new holds in record {
    inside = inside;
    pairs = given_to q.pairs a u;
    most = swapped q.most a u e q.inside q.over fits had;
    over = freed q.most a u e q.inside q.over fits had;
    keeps = λ g v f t. given (outside g f) (λ (ne, o). let w = q.keeps g v o t in
        (given_is q.pairs a u).other g v (λ i. ne (q.most.ok.one_e g e u (rw i at w) had)) w);
    within = λ g v t. either ((given_is q.pairs a u).cases g v t) (λ (i, _). (e, rw i holds)) (λ (_, w). q.within g v w);
  }

  met : Met m n edge M e
  unfolding longer
  met = record {
    L = longer;
    this = or_left (s.L e) (eq-eqb e e refl);
    frees = λ x t. either (or_cases (eqb x e) (s.L x) t) (λ i. rw (eqb-true x e i) (last (s.frees a s.this))) (λ i. earlier x (s.frees x i));
  }
    where
      earlier : (x : ℕ) → Frees m n edge M s.L x → Frees m n edge M longer x
      earlier x q = record {
        inside = q.inside;
        pairs = q.pairs;
        most = q.most;
        over = q.over;
        keeps = λ g v f t. q.keeps g v (outside g f).1 t;
        within = q.within;
      }

along : {m n : ℕ} {edge M : Rel} {f e : ℕ} → Largest m n edge M → f < m → LeftOver M f → Reach edge M f e → Met m n edge M e
along {M = M} {f} l h free start = record {
  L = λ x. eqb x f;
  this = eq-eqb f f refl;
  frees = λ x t. rw (eqb-true x f t) (record { inside = h; pairs = M; most = l; over = free; keeps = λ g v a b. b; within = λ g v t. (g, t) });
}
along l h free (step {e = e} u w fits holds) =
    let s = along l h free w in
    test (s.L e) (λ t. record { L = s.L; this = t; frees = s.frees }) (met s e u (l.ok.row e u holds) fits holds)

pub reached_surplus : {m n : ℕ} {edge M : Rel} {f e : ℕ} → Largest m n edge M → f < m → LeftOver M f → Reach edge M f e → Surplus m n edge e
reached_surplus {e = e} l h free w =
    let s = along l h free w in
    let q = s.frees e s.this in
    record { pairs = q.pairs; largest = q.most; over = q.over }

-- and every unknown of one that is reached is held: a free one would be free in the largest pairing that leaves it over too, and it could take that
pub reached_held : {m n : ℕ} {edge M : Rel} {f e : ℕ} → Largest m n edge M → f < m → LeftOver M f → Reach edge M f e
    → (u : ℕ) → u < n → edge e u ≡ true → any m (λ g. M g u) ≡ true
reached_held {M = M} {e = e} l h free w u b fits = not_false (λ none.
    let s = along l h free w in
    let q = s.frees e s.this in
    let more = given_is q.pairs e u in
    let ok = given_pairing q.most.ok q.over q.inside b fits more in
    let unheld : (g : ℕ) → q.pairs g u ≡ true → ⊥ = λ g t. given (q.within g u t) (λ (k, x). clash (any_here (λ g. M g u) k (l.ok.row k u x) x) none) in
    let large = grows q.pairs ok (λ g v t. (v, more.other g v (λ i. unheld g (rw i at t)) t)) e u q.over more.here in
    let top = q.most.top (given_to q.pairs e u) ok in
    omega arith)
