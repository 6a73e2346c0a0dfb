-- `text::put_singular`: its lines, one behind another.
use Rattle.std.proofs.Common.{rules}
use Rattle.report.proofs.TextLaws.{singular_laid}
use Rattle.report.proofs.text.put_singular.Goals as goal

pub returns : goal.returns
returns c =
    let w = singular_laid c.args.name.now c.args.number c.args.answer.now (rw c.to_le_bytes.ensures) c.put_head.ensures.text c.put_figure.ensures.text
    (rw c.strip.ensures.places at c.put_left.ensures.text) (rw c.strip-2.ensures.places at c.put_left-2.ensures.text) in
    search (rules, w.same, w.laid)
