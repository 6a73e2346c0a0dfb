-- One raise: the asked equations of a search that found nothing get 1 more, and the tops follow. The pairs stay leading, no count passes that of a fit choice,
-- and the tops' sum comes at least 1 nearer to the counts' sum. Over any relation, any orders, any numbers of equations and unknowns.
use mathlib.Core.Path.{◌≡◌}
use mathlib.Core.Bool.{Bool, true, false, ◌&&◌}
use Prim.Native.Nat.{ℕ, ◌+◌, ◌<◌, ◌≤◌}
use native.Mathlib.Omega.{arith}
use lib.Dec.{eqb}
use borrow.Author.Tests.{eqb-true, eqb-false, eq-eqb}
use Rattle.laws.specs.Count.{bit, sum, any}
use Rattle.laws.proofs.Tests.{test, given, clash, tests, not_true, and_left, and_right, and_both}
use Rattle.laws.proofs.Search.{any_here, any_where}
use Rattle.laws.proofs.Sum.{bit_true, bit_false, sum_add, sum_mono}
use Rattle.laws.proofs.Inject.{count_misses, onto}
use Rattle.pairing.specs.Pairing.{Rel, Pairing, LeftOver}
use Rattle.pairing.specs.Holders.{Reach, start, step}
use Rattle.pairing.proofs.Hall.{reach_within}
use Rattle.counts.specs.Fit.{Fits, high, leading}
use Rattle.counts.proofs.Over.{over_pairs}
use Rattle.counts.proofs.High.{high_over, high_most}

-- a search from f over the leading occurrences found nothing: who was asked
pub record AskedInVain (m n : ℕ) (lead M : Rel) (f : ℕ) (C : ℕ → Bool) : Type 0 where
  pub asker : f < m
  pub free : LeftOver M f
  pub self : C f ≡ true
  pub reached : (e : ℕ) → C e ≡ true → Reach lead M f e
  pub closed : (e u : ℕ) → C e ≡ true → u < n → lead e u ≡ true → (g : ℕ) × (C g ≡ true) × (M g u ≡ true)

-- the asked ones get 1 more
abbrev pub raised : (ℕ → ℕ) → (ℕ → Bool) → ℕ → ℕ
raised c C e = c e + bit (C e)

-- an unknown is held by one that was asked
abbrev taken : ℕ → Rel → (ℕ → Bool) → ℕ → Bool
taken m M C u = any m (λ g. C g && M g u)

pub bit_most : (b : Bool) → bit b ≤ 1
bit_most b = test b (λ t. rw t (omega arith)) (λ t. rw t (omega arith))

reach_asked : {m n : ℕ} {lead M : Rel} {f e : ℕ} {C : ℕ → Bool} → Pairing m n lead M → AskedInVain m n lead M f C → Reach lead M f e → C e ≡ true
reach_asked ok s start = s.self
reach_asked {e} ok s (step {a} u r l p) = given (s.closed a u (reach_asked ok s r) (ok.col e u p) l) (λ (g, q, h). rw (ok.one_e e g u p h) q)

module _ (m n : ℕ) (edge : Rel) (ord : ℕ → ℕ → ℕ) (c : ℕ → ℕ) (M : Rel) (f : ℕ) (C : ℕ → Bool)
    (ok : Pairing m n (leading edge ord c (high m edge ord c)) M) (s : AskedInVain m n (leading edge ord c (high m edge ord c)) M f C) where
  abbrev lead : Rel
  lead = leading edge ord c (high m edge ord c)

  is_edge : (e u : ℕ) → lead e u ≡ true → edge e u ≡ true
  is_edge e u t = and_left (edge e u) (eqb (high m edge ord c u) (ord e u + c e)) t

  is_tight : (e u : ℕ) → lead e u ≡ true → high m edge ord c u ≡ ord e u + c e
  is_tight e u t = eqb-true _ _ (and_right (edge e u) (eqb (high m edge ord c u) (ord e u + c e)) t)

  -- a top rises by 1 where an asked equation holds the unknown, and not at all elsewhere
  raise_high : (u : ℕ) → u < n → high m edge ord (raised c C) u ≤ high m edge ord c u + bit (taken m M C u)
  raise_high u h = high_most m edge ord (raised c C) u (high m edge ord c u + bit (taken m M C u))
      (λ e b t. let o = high_over m edge ord c u e b t in
      test (C e)
      (λ a. test (lead e u)
      (λ l. given (s.closed e u a h l) (λ (g, q, p).
      let k : taken m M C u ≡ true = any_here (λ x. C x && M x u) g (ok.row g u p) (and_both q p) in
      rw (a, k) (omega arith)))
      (λ l. let k : eqb (high m edge ord c u) (ord e u + c e) ≡ false = cc in rw a (omega (arith, tests))))
      (λ a. rw a (omega arith)))

  -- the pairs are leading still
  pub pairs_stay : (e u : ℕ) → M e u ≡ true → leading edge ord (raised c C) (high m edge ord (raised c C)) e u ≡ true
  pairs_stay e u p =
      let l = ok.fits e u p in
      let b = ok.row e u p in
      let r = raise_high u (ok.col e u p) in
      let o = high_over m edge ord (raised c C) u e b (is_edge e u l) in
      let t = is_tight e u l in
      and_both (is_edge e u l) (eq-eqb (high m edge ord (raised c C) u) (ord e u + raised c C e) (test (C e)
      (λ a. let one = bit_true a in let most = bit_most (taken m M C u) in omega arith)
      (λ a. let none = bit_false a in let still = bit_false (untaken a) in omega arith)))
    where
      untaken : C e ≡ false → taken m M C u ≡ false
      untaken a = not_true (λ t. given (any_where {n = m} (λ g. C g && M g u) t) (λ (g, w, q).
          let k = ok.one_e g e u (and_right (C g) (M g u) q) p in clash (rw k at (and_left (C g) (M g u) q)) a))

  pub raise_pairs : Pairing m n (leading edge ord (raised c C) (high m edge ord (raised c C))) M
  raise_pairs = over_pairs (omega arith) ok pairs_stay

  -- the tops' sum comes nearer to the counts' sum
  pub falls : sum n (high m edge ord (raised c C)) + sum m c < sum n (high m edge ord c) + sum m (raised c C)
  falls =
      let a = sum_mono n (high m edge ord (raised c C)) (λ u. high m edge ord c u + bit (taken m M C u)) raise_high in
      let b = sum_add n (high m edge ord c) (λ u. bit (taken m M C u)) in
      let d = sum_add m c (λ e. bit (C e)) in
      let k = count_misses n m (taken m M C) C (λ u e. M e u ≡ true) (λ u v e. ok.one_u e u v)
      (λ u h t. given (any_where {n = m} (λ g. C g && M g u) t) (λ (g, w, q).
      (g, w, and_right (C g) (M g u) q, and_left (C g) (M g u) q)))
      f s.asker s.self (λ u h t p. s.free u p) in
      omega arith

  -- every fit choice has more for each that was asked
  module _ (c' d' : ℕ → ℕ) (fit : Fits m n edge ord c' d') (low : (e : ℕ) → e < m → c e ≤ c' e) where
    abbrev same : ℕ → Bool
    same e = C e && eqb (c' e) (c e)

    high_low : (u : ℕ) → u < n → high m edge ord c u ≤ d' u
    high_low u h = high_most m edge ord c u (d' u) (λ e b t. let a = low e b in let o = fit.over e u b h t in omega arith)

    -- who was asked and leads at an unknown whose top is as in the fit choice has the same count there
    follows : (e u : ℕ) → C e ≡ true → e < m → u < n → lead e u ≡ true → high m edge ord c u ≡ d' u → same e ≡ true
    follows e u a b h l t =
        let i = is_tight e u l in
        let o = fit.over e u b h (is_edge e u l) in
        let w = low e b in
        and_both a (eq-eqb (c' e) (c e) (omega arith))

    -- the way from one of the same count to the holder of its partner
    abbrev moves : Rel
    moves e g = any n (λ u. fit.pairs e u && M g u)

    tied : (e u : ℕ) → same e ≡ true → fit.pairs e u ≡ true → high m edge ord c u ≡ d' u
    tied e u a p =
        let b = fit.full.ok.row e u p in
        let h = high_low u (fit.full.ok.col e u p) in
        let o = high_over m edge ord c u e b (fit.full.ok.fits e u p) in
        let t = fit.tight e u p in
        let k = eqb-true (c' e) (c e) (and_right (C e) (eqb (c' e) (c e)) a) in
        omega arith

    to_holder : (e : ℕ) → e < m → same e ≡ true → (g : ℕ) × (g < m) × (moves e g ≡ true) × (same g ≡ true)
    to_holder e b a = given (fit.full.every e b) (λ (u, p).
        let h = fit.full.ok.col e u p in
        let t = fit.tight e u p in
        let k = eqb-true (c' e) (c e) (and_right (C e) (eqb (c' e) (c e)) a) in
        let z = tied e u a p in
        let l : lead e u ≡ true = and_both (fit.full.ok.fits e u p) (eq-eqb (high m edge ord c u) (ord e u + c e) (omega arith)) in
        given (s.closed e u (and_left (C e) (eqb (c' e) (c e)) a) h l) (λ (g, q, w).
        (g, ok.row g u w, any_here (λ v. fit.pairs e v && M g v) u h (and_both p w), follows g u q (ok.row g u w) h (ok.fits g u w) z)))

    one_holder : (e f g : ℕ) → moves e g ≡ true → moves f g ≡ true → e ≡ f
    one_holder e f g p q =
        given (any_where {n = n} (λ u. fit.pairs e u && M g u) p) (λ (u, h, a).
        given (any_where {n = n} (λ u. fit.pairs f u && M g u) q) (λ (v, k, b).
        let w = ok.one_u g v u (and_right (fit.pairs f v) (M g v) b) (and_right (fit.pairs e u) (M g u) a) in
        fit.full.ok.one_e e f u (and_left (fit.pairs e u) (M g u) a) (rw w at (and_left (fit.pairs f v) (M g v) b))))

    -- each of the same count holds something, and the top there is as in the fit choice
    holds_tied : (e : ℕ) → e < m → same e ≡ true → (u : ℕ) × (M e u ≡ true) × (high m edge ord c u ≡ d' u)
    holds_tied e b a = given (onto m same moves one_holder to_holder e b a) (λ (i, w, q, t).
        given (any_where {n = n} (λ u. fit.pairs i u && M e u) t) (λ (u, h, p).
        (u, and_right (fit.pairs i u) (M e u) p, tied i u q (and_left (fit.pairs i u) (M e u) p))))

    -- so none that is reached from f has the same count: f holds nothing, and the same count is handed back along the way
    none_same : {e : ℕ} → Reach lead M f e → same e ≡ true → ⊥
    none_same start a = given (holds_tied f s.asker a) (λ (u, p, t). s.free u p)
    none_same {e} (step {a = g} u r l p) a = given (holds_tied e (ok.row e u p) a) (λ (v, q, t).
        none_same r (follows g u (reach_asked ok s r) (reach_within ok s.asker r) (ok.col e u p) l (rw (ok.one_u e v u q p) at t)))

    pub rise : (e : ℕ) → e < m → raised c C e ≤ c' e
    rise e b =
        let l = low e b in
        test (C e)
        (λ a. let z = none_same (s.reached e a) in
        let k = eqb-false (c' e) (c e) (not_true (λ t. z (and_both a t))) in
        let o = bit_true a in omega arith)
        (λ a. let o = bit_false a in omega arith)
