-- `raise::least`: as many equations as can be are paired, then whoever the next one asked is raised, and so on; a raise keeps what is kept and brings the
-- sums nearer. With all equations paired what is kept is the answer.
use mathlib.Core.Path.{sym, ◌∙◌}
use native.Mathlib.Omega.{arith}
use Rattle.counts.proofs.Work.{begin_in, to_paired, risen, answer}
use Rattle.counts.proofs.raise.least.Goals as goal

pub loop-holders-init : goal.loop-holders-init
loop-holders-init c = let b = begin_in c.args.table.now.equations c.args.table.now.rows c.requires.pairable in (omega arith, b.0, b.1)

pub pair_on-requires : goal.pair_on-requires
pair_on-requires c =
    let l = c.loop-holders in
    let few = c.requires.pairable.bounded.equations in
    let made = c.leading-leading.ensures in (
      made.0 ∙ c.requires.square ∙ sym made.1,
      rw made.0 l.invariant.0,
      rw (made.0, made.2, c.tops-tops.ensures) (to_paired c.args.table.now.equations c.args.table.now.rows l.counts few l.paired l.holders l.invariant.2),
    )

pub returns-in-Ok : goal.returns-in-Ok
returns-in-Ok c =
    let l = c.loop-holders in
    let all = rw (c.leading-leading.ensures.0, c.leading-leading.ensures.2, c.tops-tops.ensures) at c.in-Ok.ensures in
    rw c.tops-tops.ensures (answer c.args.table.now.equations c.args.table.now.rows c.requires.pairable l.paired l.counts l.holders c.in-Ok.holders l.invariant.2 all)

pub loop-holders-smaller : goal.loop-holders-smaller
loop-holders-smaller c =
    let l = c.loop-holders in
    let went = rw (c.leading-leading.ensures.0, c.leading-leading.ensures.2, c.tops-tops.ensures) at c.in-Err.ensures in
    rw c.raised-counts.ensures (risen c.args.table.now.equations c.args.table.now.rows c.requires.pairable l.paired l.counts l.holders l.invariant.2 _ _ _ went.0 went.1).2

pub loop-holders-preserved : goal.loop-holders-preserved
loop-holders-preserved c =
    let l = c.loop-holders in
    let went = rw (c.leading-leading.ensures.0, c.leading-leading.ensures.2, c.tops-tops.ensures) at c.in-Err.ensures in
    let r = risen c.args.table.now.equations c.args.table.now.rows c.requires.pairable l.paired l.counts l.holders l.invariant.2 _ _ _ went.0 went.1 in
    (omega arith, rw c.raised-counts.ensures r.0, rw c.raised-counts.ensures r.1)
