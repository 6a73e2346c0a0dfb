-- `judged::paired`: what was judged and has full rank is pairable.
use mathlib.Core.Path.{sym, ◌∙◌}
use borrow.Author.Tests.{eq-eqb}
use Rattle.laws.proofs.Tests.{and_both}
use Rattle.counts.proofs.Pairable.{pairable}
use Rattle.shown.proofs.judged.paired.Goals as goal

pub returns-then-from-n : goal.returns-then-from-n
returns-then-from-n c =
    let a = c.args in
    let t = c.filled-table.ensures in
    let sized = sym c.well_sized.ensures ∙ c.if-not-well_sized.false in
    let low = sym c.first_above.ensures ∙ c.if-first_above-bytes.false in
    let ranked = rw (t.0, t.1, t.2) at c.left_over-rank.ensures.ranked in
    let full = sym c.from.ensures ∙ c.if-from-n.true in (
      and_both sized (eq-eqb _ _ low),
      t.0,
      t.2,
      record { square = t.0 ∙ sym t.1; pairable = rw (t.0, t.2) (pairable a.n a.bytes.now _ sized low ranked full) },
    )
