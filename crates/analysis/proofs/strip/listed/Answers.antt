-- `strip::listed` meets its contract: the stretch lists what was yielded so far, by number.
use mathlib.Core.Path.{◌≡◌, ◌∙◌}
use Prim.Native.Nat.{◌<◌}
use native.Mathlib.Omega.{arith}
use lib.ListN.{length}
use Rattle.std.proofs.Common.{rules, tests}
use Rattle.std.proofs.lemmas.Iterator.{YieldsList-from_range}
use Rattle.std.proofs.lemmas.Iterator.Consumers.{YieldsList-at, YieldsList-turn, YieldsList-end, YieldsList-from_filter, YieldsList-from_enumerate}
use Rattle.laws.specs.Marks.{marked}
use Rattle.table.specs.Model.{limit}
use Rattle.analysis.proofs.Strips.{next_place, listed_add, listed_all}
use Rattle.analysis.proofs.strip.listed.Goals as goal

-- each number comes with the place behind those that came before
next : (c : goal.In-Some) → (c.in-Some.at ≡ length c.loop-at.yielded) × (length c.loop-at.yielded < limit)
next c = next_place (length c.args.marks.now) (marked c.args.marks.now) c.loop-at.yielded (c.in-Some.at, c.in-Some.i) c.requires.1
    (YieldsList-turn (YieldsList-at c.into_iter-at-iterator.ensures.into_iter_gives (YieldsList-from_enumerate (YieldsList-at c.enumerate-at-items.ensures.source
    (YieldsList-from_filter _ (marked c.args.marks.now) (YieldsList-from_range 0 (length c.args.marks.now) (length c.args.marks.now) (search rules) (omega arith)) c.filter.ensures.closure
    (λ x b q k. search (rules, tests)))) (search rules)))
    c.loop-at.yielded _ c.loop-at.yielded_by _ _ (c.in-Some.at, c.in-Some.i) c.in-Some.is c.next.ensures.steps)

pub bounds-stretch-at : goal.bounds-stretch-at
bounds-stretch-at c = let (a, b) = next c in omega (arith, c.loop-at.auto.stretch, c.unused.auto.stretch, c.requires.0)

pub loop-at-preserved : goal.loop-at-preserved
loop-at-preserved c = rw c.loop-at.invariant (listed_add c.loop-at.yielded (c.in-Some.at, c.in-Some.i) (next c))

pub returns : goal.returns
returns c =
    let all = YieldsList-end (YieldsList-at c.into_iter-at-iterator.ensures.into_iter_gives (YieldsList-from_enumerate (YieldsList-at c.enumerate-at-items.ensures.source
    (YieldsList-from_filter _ (marked c.args.marks.now) (YieldsList-from_range 0 (length c.args.marks.now) (length c.args.marks.now) (search rules) (omega arith)) c.filter.ensures.closure
    (λ x b q k. search (rules, tests)))) (search rules)))
    c.loop-at.yielded _ c.loop-at.yielded_by _ _ c.in-None.is c.next.ensures.steps in
    c.loop-at.invariant ∙ listed_all (length c.args.marks.now) (marked c.args.marks.now) c.loop-at.yielded all.0
