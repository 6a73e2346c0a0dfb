-- `list::put_commas`: what splits is a comma each time.
use Rattle.std.proofs.Common.{rules}
use Rattle.card.specs.Text.{comma}
use Rattle.report.proofs.list.put_commas.Goals as goal

pub returns : goal.returns
returns c = c.put_joined.ensures (λ i. comma) (λ i b h p. search rules)
