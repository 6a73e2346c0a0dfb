-- `array::tabulated` fills one place after another.
use Rattle.std.proofs.Common.{rules}
use mathlib.Core.Path.{◌∙◌}
use Rattle.laws.proofs.Tab.{fill_start, fill_step, replicate_tab}
use Rattle.laws.proofs.array.tabulated.Goals as goal

pub loop-i-init : goal.loop-i-init
loop-i-init g c = λ f is. replicate_tab g.row.N c.args.beyond ∙ fill_start g.row.N f (λ _. c.args.beyond)

pub loop-i-preserved : goal.loop-i-preserved
loop-i-preserved g c = λ f is. rw (c.loop-i.invariant f is, is c.loop-i.i c.each.result (search rules) c.each.ensures) (fill_step g.row.N c.loop-i.i f (λ _. c.args.beyond) (search rules))

pub returns : goal.returns
returns g c = λ f is. c.loop-i.invariant f is ∙ (search rules)
