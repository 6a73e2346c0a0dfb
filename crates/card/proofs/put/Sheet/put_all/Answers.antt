-- `card::put::Sheet::put_all` meets its contract: byte by byte, one run behind another.
use native.Mathlib.Omega.{arith}
use Rattle.card.proofs.PutLaws.{laid_more}
use Rattle.card.proofs.put.Sheet.put_all.Goals as goal

pub loop-byte-preserved : goal.loop-byte-preserved
loop-byte-preserved c = laid_more c.args.bytes.now c.loop-byte.byte-index c.loop-byte.invariant (omega arith) c.put.ensures
