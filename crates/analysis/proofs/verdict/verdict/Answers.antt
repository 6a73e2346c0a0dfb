-- `verdict::verdict` meets its contract: who may be left over, and then one of the two answers.
use mathlib.Core.Path.{sym, ◌∙◌}
use borrow.Author.Rules.{rules}
use Rattle.analysis.proofs.Strips.{front_members}
use Rattle.analysis.proofs.Verdicts.{paired_square, all_pairable, verdict_solvable, verdict_singular}
use Rattle.analysis.proofs.verdict.verdict.Goals as goal

pub solvable-requires : goal.solvable-requires
solvable-requires c =
    let all = sym c.all_paired.ensures ∙ c.if-all_paired.true in
    (record { square = paired_square _ _ _ all; pairable = all_pairable c.requires.0 c.left_over-rank.ensures all }, c.requires.1)

pub returns-then-all_paired : goal.returns-then-all_paired
returns-then-all_paired c =
    verdict_solvable c.left_over-rank.ensures (sym c.all_paired.ensures ∙ c.if-all_paired.true) c.solvable.ensures

pub returns : goal.returns
returns c =
    let t = c.args.table.now in
    let l = c.left_over-rank.result in
    verdict_singular c.left_over-rank.ensures (sym c.all_paired.ensures ∙ c.if-all_paired.false) c.pack.ensures
    (rw (front_members t.equations l.surplus (search rules), front_members t.unknowns l.unfixed (search rules)) at c.write.ensures)
