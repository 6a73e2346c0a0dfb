-- `card::judge::read_rig` meets its contract: the first line, its key, and the name behind it.
use mathlib.Core.Path.{sym, ◌∙◌, ap}
use native.Mathlib.Omega.{arith}
use Rattle.std.specs.Prelude.{Err}
use borrow.Author.Rules.{part_to_end}
use lib.ListN.{take}
use lib.Seq.{length-take-le}
use Rattle.card.specs.Entry.{good_name}
use Rattle.card.proofs.LineLaws.{LineFound, due, rig_bad, rig_good}
use Rattle.card.proofs.judge.read_rig.Goals as goal
use Rattle.card.proofs.judge.read_rig.Goals.{In_ok-end}

there : (c : In_ok-end) → LineFound c.args.card.now 0 c.in_ok-end.end
there c = due c.args.card.now 0 c.in_ok-end.end c.line_end.ensures c.in_ok-end.was

pub slice_bounds-line-end : goal.slice_bounds-line-end
slice_bounds-line-end c = sym (length-take-le c.in_ok-end.end c.args.card.now (omega (arith, (there c).room)))

pub returns-then-good_name : goal.returns-then-good_name
returns-then-good_name c =
    rig_good c.args.card.now (there (goal.at.returns-then-good_name c).In_ok-end) (sym c.starts_with.ensures.value ∙ c.if-not-starts_with.false)
    (sym (c.good_name.ensures ∙ ap good_name (part_to_end (take c.in_ok-end.end c.args.card.now) 4)) ∙ c.if-good_name.true)

pub returns-else-good_name : goal.returns-else-good_name
returns-else-good_name c =
    ap Err c.at-else-good_name.ensures
    ∙ rig_bad c.args.card.now (there (goal.at.returns-else-good_name c).In_ok-end) (sym c.starts_with.ensures.value ∙ c.if-not-starts_with.false)
    (sym (c.good_name.ensures ∙ ap good_name (part_to_end (take c.in_ok-end.end c.args.card.now) 4)) ∙ c.if-good_name.false)
