-- `text::put_list`: its parts, one behind another.
use Rattle.card.proofs.PutLaws.{laid_on_then}
use Rattle.report.proofs.text.put_list.Goals as goal

pub returns-clause-text : goal.returns-clause-text
returns-clause-text c = laid_on_then c.put_all.ensures (laid_on_then c.put_commas.ensures c.put.ensures)
