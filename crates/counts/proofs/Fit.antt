-- What being fit, and being the least fit choice, says: each unknown is met by a pair, so its top is the largest order + c over its occurrences,
-- two least choices are equal, and the tops' sum is at least the counts' sum and at most that and the largest order for each equation.
use mathlib.Core.Path.{◌≡◌, refl}
use mathlib.Core.Bool.{true}
use mathlib.Core.Logic.{inr}
use Prim.Native.Nat.{ℕ, ◌+◌, ◌*◌, ◌<◌, ◌≤◌}
use native.Mathlib.Omega.{arith}
use Rattle.laws.specs.Count.{sum}
use Rattle.laws.proofs.Tests.{given}
use Rattle.laws.proofs.Sum.{sum_add, sum_bound}
use Rattle.laws.proofs.Inject.{inject}
use Rattle.pairing.specs.Pairing.{Rel, Full}
use Rattle.pairing.proofs.Sizes.{full_turned}
use Rattle.counts.specs.Fit.{Fits, Least, high, freedom_of}
use Rattle.counts.proofs.High.{high_over, high_most}

-- where there are as many unknowns as equations, a pairing of all equations meets every unknown
pub met : (n : ℕ) (edge M : Rel) → Full n n edge M → (u : ℕ) → u < n → (e : ℕ) × (M e u ≡ true)
met n edge M full = (full_turned refl full).every

module _ (m n : ℕ) (edge : Rel) (ord : ℕ → ℕ → ℕ) (c : ℕ → ℕ) where
  -- a pairing of all equations shows that the largest order + c, summed, is at least the counts' sum
  pub potential : (P : Rel) → Full m n edge P → sum m c ≤ sum n (high m edge ord c)
  potential P full = inject m n c (high m edge ord c) (λ e u. P e u ≡ true) (λ e f u. full.ok.one_e e f u)
      (λ e b. given (full.every e b)
      (λ (u, p). let l = high_over m edge ord c u e b (full.ok.fits e u p) in inr (u, full.ok.col e u p, p, omega arith)))

module _ (m n : ℕ) (edge : Rel) (ord : ℕ → ℕ → ℕ) (c d : ℕ → ℕ) (fit : Fits m n edge ord c d) where
  -- the largest order + c is at most the top, and is the top where a pair meets it
  pub high_top : (u : ℕ) → u < n → high m edge ord c u ≤ d u
  high_top u h = high_most m edge ord c u (d u) (λ e b t. fit.over e u b h t)

  pub top_high : (e u : ℕ) → fit.pairs e u ≡ true → d u ≡ high m edge ord c u
  top_high e u p =
      let ok = fit.full.ok in
      let a = high_over m edge ord c u e (ok.row e u p) (ok.fits e u p) in
      let b = high_top u (ok.col e u p) in
      let t = fit.tight e u p in
      omega arith

  pub freedom_low : sum m c ≤ sum n d
  freedom_low = inject m n c d (λ e u. fit.pairs e u ≡ true) (λ e f u. fit.full.ok.one_e e f u)
      (λ e b. given (fit.full.every e b)
      (λ (u, p). let t = fit.tight e u p in inr (u, fit.full.ok.col e u p, p, omega arith)))

-- a fit choice's tops are the largest order + c over the unknown's occurrences
pub tops_high : (n : ℕ) (edge : Rel) (ord : ℕ → ℕ → ℕ) (c d : ℕ → ℕ) → Fits n n edge ord c d → (u : ℕ) → u < n → d u ≡ high n edge ord c u
tops_high n edge ord c d fit u h = given (met n edge fit.pairs fit.full u h) (λ (e, p). top_high n n edge ord c d fit e u p)

-- the least choice is one: counts by antisymmetry, tops since a pair meets each
pub one_count : (m n : ℕ) (edge : Rel) (ord : ℕ → ℕ → ℕ) (c d c' d' : ℕ → ℕ) → Least m n edge ord c d → Least m n edge ord c' d'
    → (e : ℕ) → e < m → c e ≡ c' e
one_count m n edge ord c d c' d' l l' e h =
    let a = l.least c' d' l'.fit e h in
    let b = l'.least c d l.fit e h in
    omega arith

pub one_top : (n : ℕ) (edge : Rel) (ord : ℕ → ℕ → ℕ) (c d c' d' : ℕ → ℕ) → Least n n edge ord c d → Least n n edge ord c' d'
    → (u : ℕ) → u < n → d u ≡ d' u
one_top n edge ord c d c' d' l l' u h =
    let a = at_most c d c' d' l l' in
    let b = at_most c' d' c d l' l in
    omega arith
  where
    at_most : (c d c' d' : ℕ → ℕ) → Least n n edge ord c d → Least n n edge ord c' d' → d u ≤ d' u
    at_most c d c' d' l l' = given (met n edge l.fit.pairs l.fit.full u h)
        (λ (e, p).
        let ok = l.fit.full.ok in
        let same = one_count n n edge ord c d c' d' l l' e (ok.row e u p) in
        let t = l.fit.tight e u p in
        let o = l'.fit.over e u (ok.row e u p) h (ok.fits e u p) in
        omega arith)

-- with orders at most k the freedom is at most k for each equation
pub freedom_high : (n k : ℕ) (edge : Rel) (ord : ℕ → ℕ → ℕ) (c d : ℕ → ℕ) → Fits n n edge ord c d
    → ((e u : ℕ) → e < n → u < n → ord e u ≤ k) → freedom_of n n c d ≤ n * k
freedom_high n k edge ord c d fit orders =
    let ok = fit.full.ok in
    let a = inject n n d (λ e. k + c e) (λ u e. fit.pairs e u ≡ true) (λ u v e. ok.one_u e u v)
    (λ u b. given (met n edge fit.pairs fit.full u b)
    (λ (e, p). let t = fit.tight e u p in let o = orders e u (ok.row e u p) b in inr (e, ok.row e u p, p, omega arith))) in
    let s = sum_add n (λ e. k) c in
    let b = sum_bound n k (λ e. k) (λ e h. omega arith) in
    omega arith
