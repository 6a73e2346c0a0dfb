-- `mudorder::answer` meets its contract: what the reader gave is what is reported, and no text is longer than the buffer for it. That the buffer for the
-- card is longer than the limit is what `report_beginning` asks of a full one.
use Rattle.std.proofs.Common.{[], ◌≡◌, ap, ◌∙◌, Ok, arith}
use Rattle.report.proofs.Printing.{report_short}
use Rattle.mudorder.specs.declared.input.Input.TheVariants.{Ended, Full}
use Rattle.mudorder.proofs.Answering.{answered, beginning, ended, good_before}
use Rattle.mudorder.proofs.answer.Goals as goal

pub print-requires-in-Full : goal.print-requires-in-Full
print-requires-in-Full g c =
    omega (arith, report_short (c.report_beginning-written.ensures []), c.report_beginning-written.auto, c.requires.1)

pub returns-in-Full-clause-ok : goal.returns-in-Full-clause-ok
returns-in-Full-clause-ok g c =
    let full : c.fill.result ≡ Ok Full = good_before _ _ _ _ c.map_err.ensures.cases c.in_ok-count.was ∙ ap Ok c.in-Full.is in
    answered _ _ _ _ _ _ _ c.requires.1 (beginning _ _ _ _ _ (rw full at c.fill.ensures.given) c.report_beginning-written.ensures) c.print-in-Full.ensures.ok

pub print-requires : goal.print-requires
print-requires g c = omega (arith, report_short c.report-written.ensures, c.report-written.auto, c.requires.1)

pub returns-in-Ended-clause-ok : goal.returns-in-Ended-clause-ok
returns-in-Ended-clause-ok g c =
    let over : c.fill.result ≡ Ok (Ended c.in-Ended.count) = good_before _ _ _ _ c.map_err.ensures.cases c.in_ok-count.was ∙ ap Ok c.in-Ended.is in
    answered _ _ _ _ _ _ _ c.requires.1 (ended _ _ _ _ _ (rw over at c.fill.ensures.given) c.report-written.ensures) c.print.ensures.ok
