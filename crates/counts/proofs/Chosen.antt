-- What callers have from the answer: it is the only one, its numbers fit their bytes, what `leading_rows` and `freedom` ask of it holds,
-- and its pairing is a full one over the table of leading occurrences.
use mathlib.Core.Path.{◌≡◌, ◌∙◌}
use mathlib.Core.List.{List}
use Prim.Native.Nat.{ℕ, ◌-◌, ◌*◌, ◌<◌, ◌≤◌}
use native.Mathlib.Omega.{arith}
use lib.Dec.{ltb}
use lib.ListN.{length}
use lib.Seq.{ext_get_or}
use borrow.Author.Tests.{ltb-true, ltb-false}
use Rattle.laws.specs.Count.{sum}
use Rattle.laws.proofs.Tests.{test}
use Rattle.table.specs.Model.{limit, occurs_at, order_at}
use Rattle.std.specs.declared.option.Option.{Option}
use Rattle.table.specs.declared.number.Equation.{Equation}
use Rattle.pairing.specs.Pairing.{Full}
use Rattle.pairing.specs.Holders.{held}
use Rattle.counts.specs.Fit.{freedom_of}
use Rattle.counts.specs.Work.{top_order, leading_rows, Small, Pairable, Chosen}
use Rattle.laws.specs.Tab.{number_at}
use Rattle.counts.proofs.Over.{over_full}
use Rattle.counts.proofs.Fit.{one_count, one_top, freedom_low, freedom_high}
use Rattle.counts.proofs.Gap.{count_bound}
use Rattle.counts.proofs.Work.{orders, rows_lead}

-- two answers to one table have the same counts and tops; which full pairing comes with them is left open
module _ (n : ℕ) (t : List (List ℕ)) (c d c' d' : List ℕ) (h h' : List (Option Equation)) (a : Chosen n t c d h) (a' : Chosen n t c' d' h') where
  pub one_counts : length c ≡ length c' → c ≡ c'
  one_counts same = ext_get_or 0 c c' same (λ e b. test (ltb e n)
      (λ k. one_count n n (occurs_at t) (order_at t) (number_at c) (number_at d) (number_at c') (number_at d') a.least a'.least e (ltb-true e n k))
      (λ k. let x = a.counts_beyond e (ltb-false e n k) in let y = a'.counts_beyond e (ltb-false e n k) in omega arith))

  pub one_tops : length d ≡ length d' → d ≡ d'
  one_tops same = ext_get_or 0 d d' same (λ u b. test (ltb u n)
      (λ k. one_top n (occurs_at t) (order_at t) (number_at c) (number_at d) (number_at c') (number_at d') a.least a'.least u (ltb-true u n k))
      (λ k. let x = a.tops_beyond u (ltb-false u n k) in let y = a'.tops_beyond u (ltb-false u n k) in omega arith))

module _ (n : ℕ) (t : List (List ℕ)) (can : Pairable n t) (c d : List ℕ) (h : List (Option Equation)) (a : Chosen n t c d h) where
  pub counts_bound : (e : ℕ) → e < n → number_at c e ≤ (n - 1) * top_order
  counts_bound = count_bound n n top_order (occurs_at t) (order_at t) (orders n t can) (number_at c) (number_at d) a.least

  pub freedom_fits : freedom_of n n (number_at c) (number_at d) ≤ n * top_order
  freedom_fits = freedom_high n top_order (occurs_at t) (order_at t) (number_at c) (number_at d) a.least.fit (orders n t can)

  -- what `freedom` asks for
  pub freedom_asks : (n ≤ limit) × (sum n (number_at c) ≤ sum n (number_at d)) × (freedom_of n n (number_at c) (number_at d) ≤ 255)
  freedom_asks =
      let w = can.bounded.equations in
      let f = freedom_fits in
      (w, freedom_low n n (occurs_at t) (order_at t) (number_at c) (number_at d) a.least.fit, omega arith)

  -- what `leading_rows` asks for
  pub chosen_small : Small n t c
  chosen_small = record {
    bounded = can.bounded;
    few = λ e b. let k = counts_bound e b in let w = can.bounded.equations in omega arith;
  }

  pub chosen_full : Full n n (occurs_at (leading_rows n t c d)) (held h)
  chosen_full = over_full a.paired
      (λ e u m. let ok = a.paired.ok in rows_lead n t c d can.bounded.equations e u (ok.row e u m) (ok.col e u m) ∙ ok.fits e u m)
