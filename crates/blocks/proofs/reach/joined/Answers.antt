-- `reach::joined` joins the two rows at each place.
use Rattle.std.proofs.Common.{rules}
use mathlib.Core.Path.{◌∙◌}
use Prim.Native.Nat.{ℕ}
use lib.ListN.{get_or}
use Rattle.laws.proofs.Tab.{whole_tab}
use Rattle.table.specs.Model.{limit}
use Rattle.blocks.specs.Steps.{either}
use Rattle.blocks.proofs.reach.joined.Goals as goal

pub returns : goal.returns
returns c =
    let one : ℕ → ℕ = λ g. either (get_or c.args.row.now g 0) (get_or c.args.other.now g 0) in
    c.tabulated.ensures one (λ i x h p. search rules) ∙ whole_tab limit one 0
