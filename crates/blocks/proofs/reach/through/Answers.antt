-- `reach::through` takes of each row what it reaches through the given equation besides.
use Rattle.std.proofs.Common.{rules}
use mathlib.Core.Path.{◌∙◌}
use mathlib.Core.List.{List}
use Prim.Native.Nat.{ℕ}
use lib.ListN.{replicate}
use Rattle.laws.specs.Tab.{tab}
use Rattle.laws.proofs.Tab.{whole_tab}
use Rattle.table.specs.Model.{limit}
use Rattle.blocks.specs.Steps.{through_code}
use Rattle.blocks.proofs.reach.through.Goals as goal

pub returns : goal.returns
returns c =
    let row : ℕ → List ℕ = λ e. tab limit (through_code c.args.reach.now c.args.k e) in
    c.tabulated.ensures row (λ i x h p. search rules) ∙ whole_tab limit row (replicate limit 0)
