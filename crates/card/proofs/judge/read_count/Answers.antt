-- `card::judge::read_count` meets its contract: the line, its key and number, and the limits.
use mathlib.Core.Path.{sym, ◌∙◌, ap}
use Prim.Native.Nat.{◌+◌}
use native.Mathlib.Omega.{arith}
use Rattle.std.specs.Prelude.{Err}
use Rattle.std.proofs.lemmas.Result.{err_from_is_err_and}
use Rattle.card.specs.Card.{count_said}
use Rattle.card.proofs.LineLaws.{LineFound, due, asked, missed, count_found}
use Rattle.card.proofs.judge.read_count.Goals as goal
use Rattle.card.proofs.judge.read_count.Goals.{In_ok-end}

there : (c : In_ok-end) → LineFound c.args.card.now c.args.at c.in_ok-end.end
there c = due c.args.card.now c.args.at c.in_ok-end.end c.line_end.ensures c.in_ok-end.was

pub slice_bounds-line_value-end : goal.slice_bounds-line_value-end
slice_bounds-line_value-end c = omega (arith, (there c).room)

pub returns-in_err-number : goal.returns-in_err-number
returns-in_err-number c =
    let (n, r) = missed c.line_value.result c.at.result c.ok_or.ensures.value c.in_err-number.was in
    let k = there (goal.at.returns-in_err-number c).In_ok-end in
    let p = err_from_is_err_and c.from_residual-in_err-number.result c.from_residual-in_err-number.ensures.1 in
    p.1 ∙ ap Err (p.2 ∙ sym r ∙ c.at.ensures) ∙ ap (count_said c.args.at (c.in_ok-end.end + 1)) (sym n ∙ c.line_value.ensures) ∙ count_found k c.args.key.now

pub returns-then-counted : goal.returns-then-counted
returns-then-counted c =
    let n = asked c.line_value.result c.at.result c.ok_or.ensures.value c.in_ok-number.was in
    let k = there (goal.at.returns-then-counted c).In_ok-end in
    let t = sym c.counted.ensures ∙ c.if-counted.true in
    rw (← count_found k c.args.key.now, ← c.line_value.ensures, n, t)

pub returns-else-counted : goal.returns-else-counted
returns-else-counted c =
    let n = asked c.line_value.result c.at.result c.ok_or.ensures.value c.in_ok-number.was in
    let k = there (goal.at.returns-else-counted c).In_ok-end in
    let t = sym c.counted.ensures ∙ c.if-counted.false in
    rw (← count_found k c.args.key.now, ← c.line_value.ensures, n, t, c.at-else-counted.ensures)
