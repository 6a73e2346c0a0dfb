-- How large a least count can be. If no count lay in the k places below t, all counts from t on could be lowered by 1 (and the tops of their unknowns with them),
-- and the choice would still be fit. So below each count stands another at most k lower, and a count is at most k for each count below it.
use mathlib.Core.Path.{◌≡◌, refl}
use mathlib.Core.Bool.{Bool, true, false, ◌&&◌}
use Prim.Native.Nat.{ℕ, zero, suc, ◌+◌, ◌-◌, ◌*◌, ◌<◌, ◌≤◌}
use native.Mathlib.Nat.{mul-le-mul_right, suc-mul}
use native.Mathlib.Omega.{arith}
use lib.Dec.{leb, ltb, eqb}
use Rattle.laws.specs.Count.{bit, count, any}
use Rattle.laws.proofs.Tests.{test, either, given, clash, tests, and_left, and_right, and_both}
use Rattle.laws.proofs.Search.{seek, any_here, any_where}
use Rattle.pairing.specs.Pairing.{Rel}
use Rattle.laws.proofs.Counts.{count_less, all_count}
use Rattle.counts.specs.Fit.{Fits, Least, index_of}
use Rattle.counts.proofs.High.{largest_most}
use Rattle.counts.proofs.Fit.{met}

-- counts from t on lowered by 1, and the tops of the unknowns paired with those
abbrev lowered : ℕ → (ℕ → ℕ) → ℕ → ℕ
lowered t c e = c e - bit (leb t (c e))

abbrev paired : ℕ → Rel → ℕ → (ℕ → ℕ) → ℕ → Bool
paired m pairs t c u = any m (λ e. pairs e u && leb t (c e))

abbrev lowered_top : ℕ → Rel → ℕ → (ℕ → ℕ) → (ℕ → ℕ) → ℕ → ℕ
lowered_top m pairs t c d u = d u - bit (paired m pairs t c u)

-- how many counts are below t
abbrev below : ℕ → (ℕ → ℕ) → ℕ → ℕ
below m c t = count m (λ e. ltb (c e) t)

-- a count that is below t and not below s
more_below : (m : ℕ) (c : ℕ → ℕ) (s t e : ℕ) → e < m → s ≤ t → s ≤ c e → c e < t → below m c s < below m c t
more_below m c s t e b l low high =
    count_less m (λ i. ltb (c i) s) (λ i. ltb (c i) t) (λ i h p. omega (arith, tests)) e b (omega (arith, tests)) (omega (arith, tests))

module _ (m n k : ℕ) (edge : Rel) (ord : ℕ → ℕ → ℕ) (orders : (e u : ℕ) → e < m → u < n → ord e u ≤ k) (c d : ℕ → ℕ) where
  -- nothing in the k places below t: lowering is fit
  lowers : (t : ℕ) → 1 ≤ t → (fit : Fits m n edge ord c d) → ((e : ℕ) → e < m → c e < t → c e + k < t)
      → Fits m n edge ord (lowered t c) (lowered_top m fit.pairs t c d)
  lowers t one fit clear = record { over = over; pairs = fit.pairs; full = fit.full; tight = tight }
    where
      over : (e u : ℕ) → e < m → u < n → edge e u ≡ true → ord e u + lowered t c e ≤ lowered_top m fit.pairs t c d u
      over e u b h o =
          let a = fit.over e u b h o in
          test (paired m fit.pairs t c u)
          (λ p. given (any_where {n = m} (λ g. fit.pairs g u && leb t (c g)) p) (λ (g, l, q).
          let top = fit.tight g u (and_left (fit.pairs g u) (leb t (c g)) q) in
          let up = and_right (fit.pairs g u) (leb t (c g)) q in
          let ok = orders e u b h in
          test (leb t (c e)) (λ r. rw (p, r) (omega (arith, tests)))
          (λ r. let low = clear e b (omega (arith, tests)) in rw (p, r) (omega (arith, tests)))))
          (λ p. rw p (omega arith))

      tight : (e u : ℕ) → fit.pairs e u ≡ true → lowered_top m fit.pairs t c d u ≡ ord e u + lowered t c e
      tight e u p =
          let a = fit.tight e u p in
          let ok = fit.full.ok in
          test (leb t (c e))
          (λ r. rw (any_here (λ g. fit.pairs g u && leb t (c g)) e (ok.row e u p) (and_both p r), r) (omega (arith, tests)))
          (λ r. test (paired m fit.pairs t c u)
          (λ q. given (any_where {n = m} (λ g. fit.pairs g u && leb t (c g)) q) (λ (g, l, w).
          let same = ok.one_e g e u (and_left (fit.pairs g u) (leb t (c g)) w) p in
          clash (rw same at (and_right (fit.pairs g u) (leb t (c g)) w)) r))
          (λ q. rw (q, r) (omega arith)))

  module _ (l : Least m n edge ord c d) where
    -- below each count that is reached stands another, at most k lower
    gap : (t e : ℕ) → 1 ≤ t → e < m → t ≤ c e → (g : ℕ) × (g < m) × (c g < t) × (t ≤ c g + k)
    gap t e one b h =
        either (seek m (λ g. ltb (c g) t && leb t (c g + k)))
        (λ (g, w, p, _). (g, w, omega (arith, tests, and_left (ltb (c g) t) (leb t (c g + k)) p), omega (arith, tests, and_right (ltb (c g) t) (leb t (c g + k)) p)))
        (λ none. let z = l.least (lowered t c) (lowered_top m l.fit.pairs t c d) (lowers t one l.fit (clear none)) e b in
        let s : leb t (c e) ≡ true = omega (arith, tests) in absurd (smaller s (rw s at z)))
      where
        clear : ((g : ℕ) → g < m → (ltb (c g) t && leb t (c g + k)) ≡ false) → (g : ℕ) → g < m → c g < t → c g + k < t
        clear none g w p =
            let r : ltb (c g) t ≡ true = omega (arith, tests) in
            test (leb t (c g + k)) (λ q. clash (and_both r q) (none g w)) (λ q. omega (arith, tests))

        smaller : leb t (c e) ≡ true → c e ≤ c e - bit true → ⊥
        smaller s z = omega arith

    -- t is at most k for each count below it, as long as some count reaches t
    stairs : (s t e : ℕ) → t ≤ s → e < m → t ≤ c e → t ≤ below m c t * k
    stairs zero t e f b h = omega arith
    stairs (suc s) t e f b h =
        test (eqb t 0) (λ z. omega (arith, tests))
        (λ z. given (gap t e (omega (arith, tests)) b h) (λ (g, w, low, near).
        let r = stairs s (c g) g (omega arith) w (omega arith) in
        let i = more_below m c (c g) t g w (omega arith) (omega arith) low in
        let x = mul-le-mul_right k i in
        let y = suc-mul (below m c (c g)) k in
        omega arith))

    -- every count is at most k × (m − 1)
    pub count_bound : (e : ℕ) → e < m → c e ≤ (m - 1) * k
    count_bound e b =
        let s = stairs (c e) (c e) e (omega arith) b (omega arith) in
        let i = count_less m (λ i. ltb (c i) (c e)) (λ i. true) (λ i h p. refl) e b refl (omega (arith, tests)) in
        let all = all_count m (λ i. true) (λ i h. refl) in
        let x : below m c (c e) * k ≤ (m - 1) * k = mul-le-mul_right k (omega arith) in
        omega arith

    pub index_bound : index_of m c ≤ (m - 1) * k
    index_bound = largest_most m c ((m - 1) * k) count_bound

-- every top is at most that and one order
pub top_bound : (n k : ℕ) (edge : Rel) (ord : ℕ → ℕ → ℕ) → ((e u : ℕ) → e < n → u < n → ord e u ≤ k) → (c d : ℕ → ℕ)
    → Least n n edge ord c d → (u : ℕ) → u < n → d u ≤ (n - 1) * k + k
top_bound n k edge ord orders c d l u h = given (met n edge l.fit.pairs l.fit.full u h)
    (λ (e, p).
    let b = l.fit.full.ok.row e u p in
    let t = l.fit.tight e u p in
    let o = orders e u b h in
    let x = count_bound n n k edge ord orders c d l e b in
    omega arith)
