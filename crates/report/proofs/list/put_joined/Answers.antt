-- `list::put_joined`: the first number, then number by number behind what splits it from the one before.
use mathlib.Core.Path.{◌≡◌}
use native.Mathlib.Omega.{arith}
use Rattle.std.proofs.lemmas.List.{take_all}
use Rattle.card.proofs.PutLaws.{laid_on_then, dec_short}
use Rattle.report.proofs.ListLaws.{further_more}
use Rattle.report.proofs.list.put_joined.Goals as goal

pub put-requires : goal.put-requires
put-requires g c = omega (arith, c.put_number.ensures.laid.place, dec_short c.from.result, c.in-Some.ensures.cases)

pub put_number-requires-in-loop-i : goal.put_number-requires-in-loop-i
put_number-requires-in-loop-i g c =
    omega (arith, c.put.ensures.laid.place, c.put_number.ensures.laid.place, dec_short c.from.result, c.in-Some.ensures.cases)

pub loop-i-preserved : goal.loop-i-preserved
loop-i-preserved g c = record {
  near = omega (arith, c.put.ensures.laid.place, c.put_number-in-loop-i.ensures.laid.place, dec_short c.from-in-loop-i.result);
  run = λ f is.
      rw (
        further_more f c.in-Some.others.now c.loop-i.i (omega arith),
        ← is c.loop-i.i c.split.result (omega (arith, c.in-Some.ensures.cases)) c.split.ensures,
        ← c.from-in-loop-i.ensures,
      )
      (laid_on_then (c.loop-i.invariant.run f is) (laid_on_then c.put.ensures c.put_number-in-loop-i.ensures));
}

pub returns : goal.returns
returns g c = λ f is.
    let first : c.from.result ≡ c.in-Some.field-0-0.now = cc in
    rw c.in-Some.ensures.cases.0
    (laid_on_then (rw first at c.put_number.ensures) (rw (take_all c.loop-i.i c.in-Some.others.now (omega arith)) at c.loop-i.invariant.run f is))
