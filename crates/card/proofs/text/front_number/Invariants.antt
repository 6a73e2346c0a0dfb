-- `card::text::front_number` meets its contract: the loop keeps `Taken`, that the number is what is read so far with the digits to come.
use Rattle.card.proofs.TextLaws.{Taken}
use Rattle.card.proofs.text.front_number.Given as goal

abbrev pub invariant-loop-at : goal.invariant-loop-at
invariant-loop-at l = Taken l.text l.number l.at
