-- `card::list::read_list` meets its contract: the loop keeps `Collecting`, that the answer is that of the lines from here on with what was read so far.
use Prim.Native.Nat.{◌-◌}
use lib.ListN.{length}
use Rattle.card.specs.Steps.{last_equation, last_unknown}
use Rattle.card.proofs.ListLaws.{Collecting}
use Rattle.card.proofs.list.read_list.Given as goal

abbrev pub invariant-loop-said : goal.invariant-loop-said
invariant-loop-said l = Collecting l.card l.limits.equations l.limits.unknowns l.from l.table (last_equation l.last) (last_unknown l.last) l.count l.at

abbrev pub decreases-loop-said : goal.decreases-loop-said
decreases-loop-said l = length l.card - l.at
