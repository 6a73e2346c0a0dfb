-- `text::put_order`: its parts, one behind another.
use Rattle.card.proofs.PutLaws.{laid_on_then}
use Rattle.report.proofs.text.put_order.Goals as goal

pub returns : goal.returns
returns c = laid_on_then c.put_all.ensures (laid_on_then c.put_blocks.ensures c.put.ensures)
