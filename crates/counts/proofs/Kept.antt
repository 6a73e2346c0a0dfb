-- What is kept while the counts are raised: it holds at the start with all counts 0 and no pairs, a raise keeps it and lowers the tops' sum less the counts' sum,
-- and with every equation paired it is the answer. Some pairing of all equations, leading or not, keeps the tops' sum from falling below the counts' sum.
use mathlib.Core.Path.{◌≡◌, ◌∙◌}
use mathlib.Core.Bool.{Bool, true, false}
use Prim.Native.Nat.{ℕ, ◌+◌, ◌-◌, ◌*◌, ◌<◌, ◌≤◌}
use native.Mathlib.Omega.{arith}
use lib.Dec.{eqb}
use borrow.Author.Tests.{eqb-true, eq-eqb}
use Rattle.laws.specs.Count.{sum}
use Rattle.laws.proofs.Tests.{not_true, and_left, and_right, and_both}
use Rattle.laws.proofs.Sum.{bit_false, sum_bound}
use Rattle.pairing.specs.Pairing.{Rel, Full}
use Rattle.pairing.proofs.Hall.{reach_within}
use Rattle.counts.specs.Fit.{Least, high, leading}
use Rattle.counts.specs.Work.{top_order}
use Rattle.counts.specs.Kept.{Kept}
use Rattle.counts.proofs.Over.{over_full}
use Rattle.counts.proofs.High.{high_over, high_most}
use Rattle.counts.proofs.Fit.{potential}
use Rattle.counts.proofs.Raising.{AskedInVain, raised, bit_most, raise_pairs, falls, rise}

-- all counts 0 and no pairs
pub begin : (n : ℕ) (edge : Rel) (ord : ℕ → ℕ → ℕ) (c : ℕ → ℕ) (M : Rel) → ((e u : ℕ) → e < n → u < n → ord e u ≤ top_order)
    → ((e : ℕ) → c e ≡ 0) → ((e u : ℕ) → M e u ≡ true → ⊥) → Kept n edge ord 0 c M
begin n edge ord c M orders none free = record {
  upto = record {
    pairs = record {
      row = λ e u p. absurd (free e u p);
      col = λ e u p. absurd (free e u p);
      fits = λ e u p. absurd (free e u p);
      one_u = λ e u v p. absurd (free e u p);
      one_e = λ e f u p. absurd (free e u p);
    };
    placed = λ e h. absurd (omega arith);
    waiting = λ e h u p. free e u p;
  };
  low = λ c' d' fit e b. let z = none e in omega arith;
  room = λ e b. let z = none e in let s = sum_bound n top_order (high n edge ord c) highs in omega arith;
  beyond = λ e h. none e;
}
  where
    highs : (u : ℕ) → u < n → high n edge ord c u ≤ top_order
    highs u h = high_most n edge ord c u top_order (λ e b t. let z = none e in let o = orders e u b h in omega arith)

module _ (n : ℕ) (edge : Rel) (ord : ℕ → ℕ → ℕ) (P : Rel) (full : Full n n edge P) where
  -- a count is at most the largest order for each equation
  pub count_few : (f : ℕ) (c : ℕ → ℕ) (M : Rel) → Kept n edge ord f c M → (e : ℕ) → e < n → c e ≤ n * top_order
  count_few f c M p e b = let r = p.room e b in let s = potential n n edge ord c P full in omega arith

  module _ (f : ℕ) (c : ℕ → ℕ) (M : Rel) (C : ℕ → Bool) (p : Kept n edge ord f c M) (s : AskedInVain n n (leading edge ord c (high n edge ord c)) M f C) where
    pub raise : Kept n edge ord f (raised c C) M
    raise = record {
      upto = record { pairs = raise_pairs n n edge ord c M f C p.upto.pairs s; placed = p.upto.placed; waiting = p.upto.waiting };
      low = λ c' d' fit. rise n n edge ord c M f C p.upto.pairs s c' d' fit (p.low c' d' fit);
      room = λ e b. let r = p.room e b in let l = falls n n edge ord c M f C p.upto.pairs s in let o = bit_most (C e) in omega arith;
      beyond = λ e h.
          let z = p.beyond e h in
          let out : C e ≡ false = not_true (λ t. let w = reach_within p.upto.pairs s.asker (s.reached e t) in absurd (omega arith)) in
          let o = bit_false out in
          omega arith;
    }

    pub nearer : sum n (high n edge ord (raised c C)) - sum n (raised c C) < sum n (high n edge ord c) - sum n c
    nearer =
        let l = falls n n edge ord c M f C p.upto.pairs s in
        let a = potential n n edge ord (raised c C) P full in
        omega arith

-- every equation paired: the least choice, over the leading occurrences
module _ (n : ℕ) (edge : Rel) (ord : ℕ → ℕ → ℕ) (c d : ℕ → ℕ) (M : Rel) (p : Kept n edge ord n c M)
    (tops : (u : ℕ) → u < n → d u ≡ high n edge ord c u) where
  leads : (e u : ℕ) → M e u ≡ true → (edge e u ≡ true) × (d u ≡ ord e u + c e)
  leads e u t =
      let l = p.upto.pairs.fits e u t in
      let q = eqb-true _ _ (and_right (edge e u) (eqb (high n edge ord c u) (ord e u + c e)) l) in
      (and_left (edge e u) (eqb (high n edge ord c u) (ord e u + c e)) l, tops u (p.upto.pairs.col e u t) ∙ q)

  all : Full n n (leading edge ord c (high n edge ord c)) M
  all = record { ok = p.upto.pairs; every = p.upto.placed }

  pub least : Least n n edge ord c d
  least = record {
    fit = record {
      over = λ e u b h t. let o = high_over n edge ord c u e b t in let k = tops u h in omega arith;
      pairs = M;
      full = over_full all (λ e u t. (leads e u t).0);
      tight = λ e u t. (leads e u t).1;
    };
    least = p.low;
  }

  pub paired : Full n n (leading edge ord c d) M
  paired = over_full all (λ e u t. and_both (leads e u t).0 (eq-eqb _ _ (leads e u t).1))
