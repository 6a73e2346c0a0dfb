-- `raise::pair_on`: one search after the other, by the laws of proofs/Pairs.
use mathlib.Core.Path.{◌≡◌}
use Prim.Native.Nat.{◌-◌}
use native.Mathlib.Omega.{arith}
use Rattle.table.specs.Number.{equation_number}
use Rattle.pairing.proofs.Searching.{widen}
use Rattle.counts.proofs.Pairs.{may_search, paired_next, went_some}
use Rattle.counts.proofs.raise.pair_on.Goals as goal

pub search-requires : goal.search-requires
search-requires c =
    let place : equation_number c.at.result - 1 ≡ c.loop-paired.paired = omega arith in
    rw (place, ← c.requires.0) (widen (may_search c.loop-paired.invariant c.args.leading.now.few.0 (omega arith)))

pub returns-in-Err : goal.returns-in-Err
returns-in-Err c =
    let place : equation_number c.at.result - 1 ≡ c.loop-paired.paired = omega arith in
    let a = (rw (place, ← c.requires.0) at c.in-Err.ensures) c.args.leading.now.equations (may_search c.loop-paired.invariant c.args.leading.now.few.0 (omega arith)) in
    (omega arith, went_some c.loop-paired.invariant (omega arith) a)

pub loop-paired-preserved : goal.loop-paired-preserved
loop-paired-preserved c =
    let place : equation_number c.at.result - 1 ≡ c.loop-paired.paired = omega arith in
    let a = (rw (place, ← c.requires.0) at c.in-Ok.ensures) c.args.leading.now.equations (may_search c.loop-paired.invariant c.args.leading.now.few.0 (omega arith)) in
    paired_next c.loop-paired.invariant a.0
