-- `first::all_settled` settles one equation after the other.
use Rattle.pairing.specs.Choosing.{SettledIn}
use Rattle.pairing.proofs.first.all_settled.Given as goal

abbrev pub invariant-loop-e : goal.invariant-loop-e
invariant-loop-e l = SettledIn l.table l.holders l.e
