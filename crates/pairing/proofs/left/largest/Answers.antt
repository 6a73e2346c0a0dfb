-- `left::largest`: one search for each equation, by the laws of proofs/Pass.
use mathlib.Core.Path.{◌≡◌, ap}
use mathlib.Core.Bool.{false}
use Prim.Native.Nat.{◌-◌}
use native.Mathlib.Omega.{arith}
use lib.ListN.{replicate}
use borrow.Author.Rules.{rules}
use Rattle.std.specs.declared.option.Option.{Option}
use Rattle.std.specs.declared.option.Option.TheVariants.{None}
use Rattle.laws.proofs.Tab.{copies_at}
use Rattle.table.specs.Model.{limit, occurs_at}
use Rattle.table.specs.Number.{equation_number, or_zero}
use Rattle.table.specs.declared.number.Equation.{Equation}
use Rattle.pairing.specs.Holders.{Asking}
use Rattle.pairing.proofs.Searching.{widen}
use Rattle.pairing.proofs.Pass.{pass_start, pass_asks, pass_found, pass_nothing}
use Rattle.pairing.proofs.left.largest.Goals as goal
use Rattle.pairing.proofs.left.largest.Goals.{After-at, in-Ok, in-Err}

-- the next equation may search
asking : (c : After-at) → Asking c.args.table.now.equations c.args.table.now.unknowns (occurs_at c.args.table.now.rows) (equation_number c.at.result - 1) c.loop-e.over c.loop-e.holders
asking c =
    let place : equation_number c.at.result - 1 ≡ c.loop-e.e = omega arith in
    rw place (pass_asks c.loop-e.invariant (search rules) (search rules) (search rules))

pub loop-e-init : goal.loop-e-init
loop-e-init c =
    let nobody : Option Equation = None in
    pass_start (replicate limit nobody) (replicate limit false) (λ u. ap (or_zero equation_number) (copies_at limit nobody u)) (λ e. copies_at limit false e)

pub search-requires : goal.search-requires
search-requires c = widen (asking (goal.at.search-requires c).After-at)

pub loop-e-preserved : goal.loop-e-preserved
loop-e-preserved c =
    let r = c.loop-e.invariant in
    let s = asking (goal.at.loop-e-preserved c).After-at in
    let place : equation_number c.at.result - 1 ≡ c.loop-e.e = omega arith in
    elim c.match-search.branch [
      | in-Ok w ↦ rw (w.holders-is, w.over-is) (pass_found r (rw place at (w.in-Ok.ensures c.args.table.now.equations s).0))
      | in-Err w ↦ rw (w.holders-is, w.over-is) (pass_nothing r (rw place at s.asker) (rw place at s.free) (rw place at (w.in-Err.ensures c.args.table.now.equations s)))
    ]
