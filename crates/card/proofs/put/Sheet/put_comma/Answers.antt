-- `card::put::Sheet::put_comma` meets its contract: a number, and a comma behind it.
use Rattle.card.proofs.PutLaws.{laid_on_then}
use Rattle.card.proofs.put.Sheet.put_comma.Goals as goal

pub returns : goal.returns
returns c = laid_on_then c.put_number.ensures c.put.ensures
