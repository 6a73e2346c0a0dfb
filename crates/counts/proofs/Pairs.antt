-- The equations are paired in turn over one relation: what each search that found keeps, and where one that found nothing stops.
use mathlib.Core.Path.{◌≡◌}
use mathlib.Core.Bool.{Bool, true, false}
use mathlib.Core.List.{List}
use Prim.Native.Nat.{ℕ, ◌+◌, ◌<◌, ◌≤◌}
use native.Mathlib.Omega.{arith}
use lib.Dec.{eqb}
use lib.ListN.{replicate}
use borrow.Author.Tests.{eqb-true}
use Rattle.laws.proofs.Tab.{copies_at}
use Rattle.laws.proofs.Tests.{test, tests, either}
use Rattle.table.specs.Model.{limit}
use Rattle.std.specs.declared.option.Option.{Option}
use Rattle.table.specs.declared.number.Equation.{Equation}
use Rattle.pairing.specs.Pairing.{Rel}
use Rattle.pairing.specs.Holders.{held, Asking, Found, Nothing}
use Rattle.counts.specs.Kept.{Paired, Went}
use Rattle.counts.proofs.Over.{over_pairs}

-- the same pairs over another relation that holds at them
pub over_paired : {n f : ℕ} {A B M : Rel} → Paired n A f M → ((e u : ℕ) → e < n → u < n → A e u ≡ true → B e u ≡ true) → Paired n B f M
over_paired p to = record {
  pairs = over_pairs (omega arith) p.pairs (λ e u m. to e u (p.pairs.row e u m) (p.pairs.col e u m) (p.pairs.fits e u m));
  placed = p.placed;
  waiting = p.waiting;
}

module _ {n : ℕ} {edge : Rel} {f : ℕ} {h : List (Option Equation)} (p : Paired n edge f (held h)) where
  -- the next equation may search
  pub may_search : n ≤ limit → f < n → Asking n n edge f (replicate limit false) h
  may_search w b = record { equations = w; unknowns = w; asker = b; fresh = copies_at limit false f; free = p.waiting f (omega arith); ok = p.pairs }

  pub paired_next : {k : List (Option Equation)} → Found n n edge f (replicate limit false) h k → Paired n edge (f + 1) (held k)
  paired_next got = record {
    pairs = got.ok;
    placed = λ e l. test (eqb e f) (λ t. rw (eqb-true e f t) got.gained) (λ t. got.kept e (p.placed e (omega (arith, tests))));
    waiting = λ e l u m. either (got.none_else e (u, m)) (λ z. absurd (omega arith)) (λ (v, k). p.waiting e (omega arith) v k);
  }

  pub went_some : {a : List Bool} → f < n → Nothing n edge f (replicate limit false) a h → Went n edge f h a
  went_some l none = record { upto = p; far = omega arith; stopped = λ _. none }
