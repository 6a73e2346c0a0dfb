-- `raise::least`: as many equations as can be are paired, then whoever the next one asked is raised, and so on; a raise keeps what is kept and brings the
-- sums nearer. With all equations paired what is kept is the answer.
use Prim.Native.Nat.{◌-◌, ◌≤◌}
use Rattle.laws.specs.Count.{sum}
use Rattle.counts.specs.Work.{high_at, Small}
use Rattle.laws.specs.Tab.{number_at}
use Rattle.counts.specs.Kept.{KeptIn}
use Rattle.counts.proofs.raise.least.Given as goal

abbrev pub invariant-loop-holders : goal.invariant-loop-holders
invariant-loop-holders l = (l.paired ≤ l.table.equations) × Small l.table.equations l.table.rows l.counts × KeptIn l.table.equations l.table.rows l.paired l.counts l.holders

abbrev pub decreases-loop-holders : goal.decreases-loop-holders
decreases-loop-holders l = sum l.table.equations (high_at l.table.equations l.table.rows l.counts) - sum l.table.equations (number_at l.counts)
