-- `card::put::Sheet::put_all` meets its contract: byte by byte, one run behind another.
use lib.ListN.{take}
use Rattle.card.specs.Laid.{LaidOn}
use Rattle.card.proofs.put.Sheet.put_all.Given as goal

abbrev pub invariant-loop-byte : goal.invariant-loop-byte
invariant-loop-byte l = LaidOn l.initial.self (take l.byte-index l.bytes) l.self
