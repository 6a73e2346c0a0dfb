-- `text::put_refused`: its two lines, one behind another.
use Rattle.std.proofs.Common.{rules}
use Rattle.report.proofs.TextLaws.{refused_laid}
use Rattle.report.proofs.text.put_refused.Goals as goal

pub returns : goal.returns
returns c =
    let w = refused_laid c.args.number c.args.place c.put_figure.ensures.text c.put_all.ensures c.put_place.ensures.text c.put.ensures in
    search (rules, w.same, w.laid)
