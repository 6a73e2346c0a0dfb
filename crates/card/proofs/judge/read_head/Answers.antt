-- `card::judge::read_head` meets its contract: the rig line, and what stands behind it.
use mathlib.Core.Path.{sym, ◌∙◌}
use Rattle.card.proofs.LineLaws.{rigged, rig_on}
use Rattle.card.proofs.judge.read_head.Goals as goal

pub read_counts-requires : goal.read_counts-requires
read_counts-requires c = let k = rigged c.args.card.now c.in_ok-end.end (sym c.read_rig.ensures ∙ c.in_ok-end.was) in (k.key, k.room)

pub returns : goal.returns
returns c = record { same = rig_on c.args.card.now (sym c.read_rig.ensures ∙ c.in_ok-end.was) ∙ c.read_counts.ensures.same; fits = c.read_counts.ensures.fits }
