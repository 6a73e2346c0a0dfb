-- `card::put::Sheet::put_line` meets its contract: the key, the number and the LF, one behind another.
use Rattle.card.proofs.PutLaws.{laid_on_then}
use Rattle.card.proofs.put.Sheet.put_line.Goals as goal

pub returns : goal.returns
returns c = laid_on_then (laid_on_then c.put_all.ensures c.put_number.ensures) c.put.ensures
