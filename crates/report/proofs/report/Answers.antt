-- `report::report` meets its contract: the text is measured by laying it into nothing, and laid where there is room for all of it.
use Rattle.report.proofs.Examining.{reported_all}
use Rattle.report.proofs.report.Goals as goal

pub returns : goal.returns
returns c =
    reported_all c.args.out.now c.examined-found.ensures c.name_of-name.ensures.bytes
    c.put_text-length.ensures c.if-out-length.false c.put_text.ensures
