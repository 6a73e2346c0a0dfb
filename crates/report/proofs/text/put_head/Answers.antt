-- `text::put_head`: its parts, one behind another.
use Rattle.card.proofs.PutLaws.{laid_on_then}
use Rattle.report.proofs.text.put_head.Goals as goal

pub returns-clause-text : goal.returns-clause-text
returns-clause-text c =
    laid_on_then (laid_on_then c.put_all.ensures (laid_on_then c.put_all-2.ensures c.put.ensures)) (laid_on_then
    c.put_all-3.ensures (laid_on_then c.put_all-4.ensures c.put-2.ensures))
