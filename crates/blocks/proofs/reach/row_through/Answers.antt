-- `reach::row_through` leaves the row as it is where the equation is not reached.
use mathlib.Core.Path.{◌≡◌}
use lib.ListN.{length}
use borrow.Author.Rules.{rules}
use Rattle.table.specs.Model.{limit}
use Rattle.blocks.proofs.Tables.{row_left}
use Rattle.blocks.proofs.reach.row_through.Goals as goal

pub returns-then-row-k-eq0 : goal.returns-then-row-k-eq0
returns-then-row-k-eq0 c =
    let a = c.args in
    let all : length a.row.now ≡ limit = search rules in
    row_left a.row.now a.other.now a.k all c.if-row-k-eq0.true
