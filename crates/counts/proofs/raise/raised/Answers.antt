-- `raise::raised` takes one more at each place.
use Rattle.std.proofs.Common.{rules}
use Prim.Native.Nat.{ℕ, ◌+◌}
use Rattle.laws.specs.Count.{bit}
use Rattle.laws.specs.Marks.{marked}
use Rattle.laws.specs.Tab.{number_at}
use Rattle.counts.proofs.raise.raised.Goals as goal

pub returns : goal.returns
returns c = c.tabulated.ensures (λ (e : ℕ). number_at c.args.counts.now e + bit (marked c.args.asked.now e)) (λ i x h p. search rules)
