-- Counts, tops and partners that are given, and a test that the counts are the least: each equation is reached from one of count 0, a step leading from f to e where
-- e's partner leads in f. Were some counts above those of a fit choice c' by at least δ, the equations above by δ would go one to one into themselves,
-- through the tight pairing of c' and back by partner; so all that lead at their partners would be above by δ too, and with them an equation of count 0.
use mathlib.Core.Path.{◌≡◌, sym}
use mathlib.Core.Bool.{Bool, true, ◌&&◌}
use mathlib.Core.List.{List}
use Prim.Native.Nat.{ℕ, zero, suc, ◌+◌, ◌<◌, ◌≤◌}
use native.Mathlib.Omega.{arith}
use lib.Dec.{eqb, ltb, leb}
use borrow.Author.Tests.{eqb-true, eq-eqb, ltb-true, leb-true}
use Rattle.laws.specs.Marks.{marked}
use Rattle.laws.proofs.Tests.{test, tests, given, and_left, and_right}
use Rattle.laws.proofs.Inject.{onto}
use Rattle.pairing.specs.Pairing.{Rel}
use Rattle.pairing.specs.First.{Partners}
use Rattle.pairing.proofs.Choice.{pairs_of, partners_full}
use Rattle.counts.specs.Fit.{Fits, Least, largest, leading}
use Rattle.counts.proofs.High.{largest_over}
use Rattle.counts.proofs.Fit.{met}
use Rattle.analysis.proofs.Finite.{all, all_at, all2, all2_at, implies, implies_at}
use Rattle.laws.proofs.Closure.{closure, closure_only}

abbrev pub is_partners : ℕ → Rel → (ℕ → ℕ) → Bool
is_partners n edge p = all n (λ e. ltb (p e) n && edge e (p e)) && all2 n n (λ e f. implies (eqb (p e) (p f)) (eqb e f))

pub is_partners_lem : (n : ℕ) (edge : Rel) (p : ℕ → ℕ) → is_partners n edge p ≡ true → Partners n n edge p
is_partners_lem n edge p t = record {
  col = λ e h. ltb-true (p e) n (and_left (ltb (p e) n) (edge e (p e)) (here e h));
  fits = λ e h. and_right (ltb (p e) n) (edge e (p e)) (here e h);
  own = λ e f h k s. eqb-true e f (implies_at (all2_at (λ e f. implies (eqb (p e) (p f)) (eqb e f))
      (and_right (all n (λ e. ltb (p e) n && edge e (p e))) (all2 n n (λ e f. implies (eqb (p e) (p f)) (eqb e f))) t) e f h k) (eq-eqb (p e) (p f) s));
}
  where
    here : (e : ℕ) → e < n → (ltb (p e) n && edge e (p e)) ≡ true
    here = all_at (λ e. ltb (p e) n && edge e (p e)) (and_left (all n (λ e. ltb (p e) n && edge e (p e))) (all2 n n (λ e f. implies (eqb (p e) (p f)) (eqb e f))) t)

-- each unknown is somebody's partner
pub partner_of_lem : {n : ℕ} {edge : Rel} {p : ℕ → ℕ} → Partners n n edge p → (u : ℕ) → u < n → (e : ℕ) × (e < n) × (p e ≡ u)
partner_of_lem {n} {edge} {p} k u h = given (met n edge (pairs_of n p) (partners_full k) u h)
    (λ (e, t). (e, ltb-true e n (and_left (ltb e n) (eqb u (p e)) t), sym (eqb-true u (p e) (and_right (ltb e n) (eqb u (p e)) t))))

abbrev pub is_over : ℕ → Rel → (ℕ → ℕ → ℕ) → (ℕ → ℕ) → (ℕ → ℕ) → Bool
is_over n edge ord c d = all2 n n (λ e u. implies (edge e u) (leb (ord e u + c e) (d u)))

-- reached from a count of 0
abbrev pub from_none : ℕ → Rel → (ℕ → ℕ) → (ℕ → ℕ) → List Bool
from_none n lead c p = closure n (λ f e. lead f (p e)) (λ e. eqb (c e) 0)

abbrev pub is_least : ℕ → Rel → (ℕ → ℕ) → (ℕ → ℕ) → Bool
is_least n lead c p = all n (marked (from_none n lead c p))

module _ (n : ℕ) (edge : Rel) (ord : ℕ → ℕ → ℕ) (c d p : ℕ → ℕ) (over : is_over n edge ord c d ≡ true) (k : Partners n n (leading edge ord c d) p) where
  over_at : (e u : ℕ) → e < n → u < n → edge e u ≡ true → ord e u + c e ≤ d u
  over_at e u h b o =
      leb-true (ord e u + c e) (d u) (implies_at (all2_at (λ e u. implies (edge e u) (leb (ord e u + c e) (d u))) over e u h b) o)

  occurs : (e u : ℕ) → leading edge ord c d e u ≡ true → edge e u ≡ true
  occurs e u t = and_left (edge e u) (eqb (d u) (ord e u + c e)) t

  leads : (e u : ℕ) → leading edge ord c d e u ≡ true → d u ≡ ord e u + c e
  leads e u t = eqb-true (d u) (ord e u + c e) (and_right (edge e u) (eqb (d u) (ord e u + c e)) t)

  fits : Fits n n edge ord c d
  fits = record {
    over = over_at;
    pairs = pairs_of n p;
    full = partners_full (record { col = k.col; fits = λ e h. occurs e (p e) (k.fits e h); own = k.own });
    tight = λ e u t.
        let h = ltb-true e n (and_left (ltb e n) (eqb u (p e)) t) in
        let q : u ≡ p e = eqb-true u (p e) (and_right (ltb e n) (eqb u (p e)) t) in
        rw q (leads e (p e) (k.fits e h));
  }

  module _ (c' d' : ℕ → ℕ) (fit : Fits n n edge ord c' d') (δ : ℕ) (most : (e : ℕ) → e < n → c e ≤ c' e + suc δ) where
    abbrev above : ℕ → Bool
    above e = eqb (c e) (c' e + suc δ)

    -- at the unknown that one above has in the tight pairing of c', all that lead are above
    carry : (i u f : ℕ) → above i ≡ true → fit.pairs i u ≡ true → f < n → leading edge ord c d f u ≡ true → above f ≡ true
    carry i u f a t h w =
        let ok = fit.full.ok in
        let b = ok.col i u t in
        let s = fit.tight i u t in
        let o = over_at i u (ok.row i u t) b (ok.fits i u t) in
        let l = leads f u w in
        let o' = fit.over f u h b (occurs f u w) in
        let m = most f h in
        omega (arith, tests)

    into : (i : ℕ) → i < n → above i ≡ true → (g : ℕ) × (g < n) × (fit.pairs i (p g) ≡ true) × (above g ≡ true)
    into i h a = given (fit.full.every i h) (λ (u, t). given (partner_of_lem k u (fit.full.ok.col i u t)) (λ (g, b, q).
        (g, b, rw q t, carry i u g a t b (rw q at (k.fits g b)))))

    -- closed backwards along partners that lead
    back : (f e : ℕ) → f < n → e < n → leading edge ord c d f (p e) ≡ true → above e ≡ true → above f ≡ true
    back f e h b w a = given (onto n above (λ i g. fit.pairs i (p g)) (λ i j g s t. fit.full.ok.one_e i j (p g) s t) into e b a)
        (λ (i, l, x, t). carry i (p e) f x t h w)

    nobody : is_least n (leading edge ord c d) c p ≡ true → (e : ℕ) → e < n → above e ≡ true → ⊥
    nobody t e h = closure_only n (λ f e. leading edge ord c d f (p e)) (λ e. eqb (c e) 0) (λ e. above e ≡ true → ⊥)
        (λ e b z a. absurd (omega (arith, tests)))
        (λ f e b l out s a. out (back f e b l s a))
        e (all_at (marked (from_none n (leading edge ord c d) c p)) t e h)

  -- so no count is above by 1 or more
  lowers : is_least n (leading edge ord c d) c p ≡ true → (c' d' : ℕ → ℕ) → Fits n n edge ord c' d' → (δ : ℕ)
      → ((e : ℕ) → e < n → c e ≤ c' e + δ) → (e : ℕ) → e < n → c e ≤ c' e
  lowers t c' d' fit zero most e h = let m = most e h in omega arith
  lowers t c' d' fit (suc δ) most e h = lowers t c' d' fit δ
      (λ f b. let m = most f b in test (eqb (c f) (c' f + suc δ)) (λ a. absurd (nobody c' d' fit δ most t f b a)) (λ a. omega (arith, tests))) e h

  pub is_least_lem : is_least n (leading edge ord c d) c p ≡ true → Least n n edge ord c d
  is_least_lem t = record {
    fit = fits;
    least = λ c' d' fit e h. lowers t c' d' fit (largest n c) (λ f b. let l = largest_over n c f b in omega arith) e h;
  }
