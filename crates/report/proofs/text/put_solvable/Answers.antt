-- `text::put_solvable`: its lines, one behind another.
use Rattle.std.proofs.Common.{rules}
use Rattle.card.proofs.PutLaws.{laid_on_then}
use Rattle.report.proofs.TextLaws.{solvable_laid}
use Rattle.report.proofs.text.put_solvable.Goals as goal

pub returns : goal.returns
returns c =
    let w = solvable_laid c.args.name.now c.args.n c.args.number c.args.answer.now (rw c.to_le_bytes.ensures) (rw c.to_le_bytes.ensures)
    c.put_head.ensures.text c.put_figure.ensures.text c.put_figure-2.ensures.text
    (laid_on_then (rw c.strip.ensures.places at c.put_list.ensures.text) (laid_on_then
    (rw c.strip-2.ensures.places at c.put_list-2.ensures.text) (laid_on_then
    (rw c.strip-3.ensures.places at c.put_list-3.ensures.text) (rw (c.strip-4.ensures.places, c.strip-5.ensures.places) at c.put_order.ensures)))) in
    search (rules, w.same, w.laid)
