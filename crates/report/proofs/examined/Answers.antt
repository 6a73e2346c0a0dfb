-- `report::examined` meets its contract: too long an input, a refusal of the reader, or a good card whose table is analysed.
use Rattle.report.proofs.Examining.{faulty_is, examined_refused, examined_good}
use Rattle.report.proofs.examined.Goals as goal

pub returns-in_err-size : goal.returns-in_err-size
returns-in_err-size c =
    rw (faulty_is c.from_residual.result c.in_err-size.field-0.0 c.from_residual.ensures.1)
    (examined_refused c.if-card-gt-INPUT_LIMIT.false c.read.ensures c.in_err-size.was)

pub returns : goal.returns
returns c = examined_good c.if-card-gt-INPUT_LIMIT.false c.read.ensures c.in_ok-size.was c.analysed.ensures
