-- `card::judge::read_counts` meets its contract: two count lines, one behind the other.
use mathlib.Core.Path.{◌≡◌, sym, ◌∙◌}
use Prim.Native.Nat.{◌+◌}
use native.Mathlib.Omega.{arith}
use lib.ListN.{length, take, drop}
use Rattle.std.specs.Prelude.{Ok}
use Rattle.std.proofs.lemmas.Result.{err_from_is_err_and}
use Rattle.laws.proofs.Tests.{and_both}
use Rattle.card.specs.Text.{rig_key, equations_key, unknowns_key, lines_of}
use Rattle.card.specs.Card.{count_of}
use Rattle.card.proofs.LineLaws.{Countable, countable, counts_two, counts_three}
use Rattle.card.proofs.judge.read_counts.Goals as goal
use Rattle.card.proofs.judge.read_counts.Goals.{In_ok-equations, In_ok-unknowns}

first : (c : In_ok-equations)
    → count_of equations_key (c.args.end + 1) (lines_of (drop (c.args.end + 1) c.args.card.now)) ≡ Ok (c.in_ok-equations.equations, c.in_ok-equations.second)
first c = sym c.read_count.ensures ∙ c.in_ok-equations.was

second : (c : In_ok-unknowns)
    → count_of unknowns_key c.in_ok-equations.second (lines_of (drop c.in_ok-equations.second c.args.card.now)) ≡ Ok (c.in_ok-unknowns.unknowns, c.in_ok-unknowns.next)
second c = sym c.read_count-2.ensures ∙ c.in_ok-unknowns.was

both : (c : In_ok-unknowns)
    → Countable c.args.card.now (c.args.end + 1) c.in_ok-equations.equations c.in_ok-equations.second
    × Countable c.args.card.now c.in_ok-equations.second c.in_ok-unknowns.unknowns c.in_ok-unknowns.next
both c = (
  countable c.args.card.now equations_key (c.args.end + 1) _ _ (first (goal.at.In_ok-unknowns c).In_ok-equations),
  countable c.args.card.now unknowns_key c.in_ok-equations.second _ _ (second c),
)

pub returns-in_err-unknowns : goal.returns-in_err-unknowns
returns-in_err-unknowns c =
    let s = c.args.card.now in
    let e = c.args.end in
    let p = err_from_is_err_and c.from_residual-in_err-unknowns.result c.from_residual-in_err-unknowns.ensures.1 in
    rw (p.1, p.2) (record {
      same = counts_two s (drop (length rig_key) (take e s)) (e + 1) (first (goal.at.returns-in_err-unknowns c).In_ok-equations)
          (sym c.read_count-2.ensures ∙ c.in_err-unknowns.was);
      fits = tt;
    })

pub invariant_of-limits : goal.invariant_of-limits
invariant_of-limits c = let b = both (goal.at.invariant_of-limits c).In_ok-unknowns in record { within = and_both b.0.counted b.1.counted }

pub returns : goal.returns
returns c =
    let s = c.args.card.now in
    let e = c.args.end in
    let at = (goal.at.returns c).In_ok-unknowns in
    record {
      same = counts_three s (drop (length rig_key) (take e s)) (e + 1) (first (goal.at.returns c).In_ok-equations) (second at);
      fits = (c.requires.0, omega (arith, c.requires.1), (both at).1.room);
    }
