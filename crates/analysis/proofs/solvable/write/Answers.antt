-- `solvable::write` meets its contract: five stretches, each filled by its writer.
use mathlib.Core.List.{map}
use lib.ListN.{take}
use Rattle.table.specs.Number.{equation_number, unknown_number, or_zero}
use Rattle.analysis.proofs.Put.{put_five}
use Rattle.analysis.proofs.solvable.write.Goals as goal

pub returns : goal.returns
returns c =
    let start = c.args in
    let n = start.n in
    let solution = start.solution.now in
    put_five start.answer.now (take n solution.counts) (take n solution.tops) (take n (map (or_zero unknown_number) solution.partners))
    (take n (map (or_zero equation_number) solution.order)) (take n solution.block)
    c.numbers.ensures c.numbers-2.ensures (rw c.numbers-partners.ensures at c.numbers-3.ensures)
    (rw c.numbers-order.ensures at c.numbers-4.ensures) c.numbers-5.ensures
