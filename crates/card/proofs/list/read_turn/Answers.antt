-- `card::list::read_turn` meets its contract: the line, and what it says.
use mathlib.Core.Path.{◌≡◌, sym, ◌∙◌, ap}
use Prim.Native.Nat.{◌+◌}
use native.Mathlib.Omega.{arith}
use Rattle.std.specs.Prelude.{Option, Some, Err}
use Rattle.card.specs.declared.entry.Entry.{Entry}
use Rattle.std.proofs.lemmas.Result.{err_from_is_err_and}
use lib.ListN.{drop}
use Rattle.card.specs.Text.{lines_of}
use Rattle.card.specs.Card.{turn_said, turn_of}
use Rattle.card.specs.Steps.{last_equation, last_unknown, said_in}
use Rattle.card.proofs.LineLaws.{LineFound, due, asked, missed, turn_found}
use Rattle.card.proofs.list.read_turn.Goals as goal
use Rattle.card.proofs.list.read_turn.Goals.{In_ok-end, After-line_entry}

there : (c : In_ok-end) → LineFound c.args.card.now c.args.at c.in_ok-end.end
there c = due c.args.card.now c.args.at c.in_ok-end.end c.line_end.ensures c.in_ok-end.was

-- the line comes to what it says
turned : (c : After-line_entry) {v : Option Entry} → c.line_entry.result ≡ v
    → turn_said c.args.limits.equations c.args.limits.unknowns (last_equation c.args.last) (last_unknown c.args.last) c.args.at (c.in_ok-end.end + 1) v
    ≡ turn_of c.args.limits.equations c.args.limits.unknowns (last_equation c.args.last) (last_unknown c.args.last) c.args.at (lines_of (drop c.args.at c.args.card.now))
turned c n =
    let a = c.args in
    ap (turn_said a.limits.equations a.limits.unknowns (last_equation a.last) (last_unknown a.last) a.at (c.in_ok-end.end + 1)) (sym n ∙ c.line_entry.ensures)
    ∙ turn_found (there (goal.at.After-line_entry c).In_ok-end) a.limits.equations a.limits.unknowns (last_equation a.last) (last_unknown a.last)

pub overflow_add-next : goal.overflow_add-next
overflow_add-next c = omega (arith, (there c).room)

pub slice_bounds-line_entry-end : goal.slice_bounds-line_entry-end
slice_bounds-line_entry-end c = omega (arith, (there (goal.at.slice_bounds-line_entry-end c).In_ok-end).room)

pub returns-in_err-count : goal.returns-in_err-count
returns-in_err-count c =
    let (n, r) = missed c.line_entry.result c.at.result c.ok_or.ensures.value c.in_err-count.was in
    let p = err_from_is_err_and c.from_residual-in_err-count.result c.from_residual-in_err-count.ensures.1 in
    ap said_in (p.1 ∙ ap Err (p.2 ∙ sym r ∙ c.at.ensures)) ∙ turned (goal.at.returns-in_err-count c).After-line_entry n

pub returns-in-End : goal.returns-in-End
returns-in-End c =
    turned (goal.at.returns-in-End c).After-line_entry
    (asked c.line_entry.result c.at.result c.ok_or.ensures.value c.in_ok-count.was ∙ ap Some c.in-End.is)

pub returns-in-Occurs : goal.returns-in-Occurs
returns-in-Occurs c =
    c.read_pair.ensures
    ∙ turned (goal.at.returns-in-Occurs c).After-line_entry
    (asked c.line_entry.result c.at.result c.ok_or.ensures.value c.in_ok-count.was ∙ ap Some c.in-Occurs.is)
