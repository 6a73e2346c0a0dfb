-- `number::numbers` takes each number where it stands.
use Rattle.std.proofs.Common.{rules}
use mathlib.Core.Path.{◌∙◌}
use Prim.Native.Nat.{ℕ}
use lib.ListN.{get_or}
use Rattle.std.specs.declared.option.Option.TheVariants.{None}
use Rattle.laws.proofs.Tab.{whole_tab, map_tab}
use Rattle.table.specs.Model.{limit}
use Rattle.table.specs.Number.{or_zero}
use Rattle.table.proofs.number.numbers.Goals as goal

pub returns : goal.returns
returns g c =
    let f : ℕ → ℕ = λ i. or_zero g.N.Counted.number (get_or c.args.list i None) in
    c.tabulated.ensures f (λ i x h p. search rules) ∙ whole_tab limit f 0 ∙ map_tab (or_zero g.N.Counted.number) c.args.list None limit (search rules)
