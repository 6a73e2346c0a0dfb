-- `card::list::read_list` meets its contract: the loop keeps `Collecting`, that the answer is that of the lines from here on with what was read so far.
use mathlib.Core.Path.{◌≡◌, sym, ◌∙◌, ap}
use native.Mathlib.Omega.{arith}
use lib.ListN.{drop}
use Rattle.std.specs.Prelude.{Ok}
use Rattle.std.proofs.lemmas.Result.{err_from_is_err_and}
use Rattle.table.specs.Number.{equation_number, unknown_number}
use Rattle.card.specs.Text.{lines_of}
use Rattle.card.specs.Card.{occurs, ends, turn_of}
use Rattle.card.specs.Steps.{last_equation, last_unknown, said_in}
use Rattle.card.proofs.ListLaws.{collecting_start, collecting_next, collecting_wrong, collecting_end, turn_next}
use Rattle.card.proofs.ListLaws.{Taking, Onward, cell_fits}
use Rattle.card.proofs.list.read_list.Goals as goal
use Rattle.card.proofs.list.read_list.Goals.{In-Next, In-Last}

-- the line that was taken
turned : (c : In-Next)
    → turn_of c.args.limits.equations c.args.limits.unknowns (last_equation c.loop-said.last) (last_unknown c.loop-said.last) c.loop-said.at
    (lines_of (drop c.loop-said.at c.args.card.now))
    ≡ Ok (occurs (equation_number c.in-Next.pair.equation) (unknown_number c.in-Next.pair.unknown) c.in-Next.code c.in-Next.next)
turned c = sym c.read_turn.ensures ∙ ap said_in (c.in_ok-said.was ∙ ap Ok c.in-Next.is)

took : (c : In-Next)
    → Taking c.args.limits.equations c.args.limits.unknowns (last_equation c.loop-said.last) (last_unknown c.loop-said.last) (equation_number c.in-Next.pair.equation)
    (unknown_number c.in-Next.pair.unknown) c.in-Next.code
    × Onward c.args.card.now c.loop-said.at c.in-Next.next
took c =
    turn_next c.args.card.now c.args.limits.equations c.args.limits.unknowns (last_equation c.loop-said.last) (last_unknown c.loop-said.last) c.loop-said.at
    (turned c)

last : (c : In-Last)
    → turn_of c.args.limits.equations c.args.limits.unknowns (last_equation c.loop-said.last) (last_unknown c.loop-said.last) c.loop-said.at
    (lines_of (drop c.loop-said.at c.args.card.now))
    ≡ Ok (ends c.in-Last.said c.in-Last.next)
last c = sym c.read_turn.ensures ∙ ap said_in (c.in_ok-said.was ∙ ap Ok c.in-Last.is)

pub loop-said-init : goal.loop-said-init
loop-said-init c = collecting_start c.args.card.now c.args.limits.equations c.args.limits.unknowns c.args.from c.args.limits.within c.requires

pub returns-in_err-read_end-in-Last : goal.returns-in_err-read_end-in-Last
returns-in_err-read_end-in-Last c =
    let p = err_from_is_err_and c.from_residual-in_err-read_end-in-Last.result c.from_residual-in_err-read_end-in-Last.ensures.1 in
    rw (p.1, p.2) (collecting_wrong c.loop-said.invariant (last (goal.at.returns-in_err-read_end-in-Last c).In-Last)
    (sym c.read_end.ensures ∙ c.in_err-read_end-in-Last.was))

pub returns-in-Last : goal.returns-in-Last
returns-in-Last c =
    collecting_end c.loop-said.invariant (last (goal.at.returns-in-Last c).In-Last)
    (sym c.read_end.ensures ∙ c.in_ok-read_end-in-Last.was)

pub bounds-table-cell : goal.bounds-table-cell
bounds-table-cell c =
    cell_fits {U = c.args.limits.unknowns} c.args.limits.within (took (goal.at.bounds-table-cell c).In-Next).0.ranged c.place.ensures c.place-in-Next.ensures

pub loop-said-smaller : goal.loop-said-smaller
loop-said-smaller c = let w = (took (goal.at.loop-said-smaller c).In-Next).1 in omega (arith, w.more, w.room)

pub loop-said-preserved : goal.loop-said-preserved
loop-said-preserved c =
    rw (c.place.ensures, c.place-in-Next.ensures) (collecting_next c.loop-said.invariant (turned (goal.at.loop-said-preserved c).In-Next))
