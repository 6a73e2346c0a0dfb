-- `need::needs` takes one row after another; equations beyond the last need nothing.
use Rattle.std.proofs.Common.{rules}
use mathlib.Core.Path.{refl, ◌∙◌}
use mathlib.Core.List.{List}
use Prim.Native.Nat.{ℕ}
use Rattle.laws.specs.Tab.{tab}
use Rattle.table.specs.Model.{limit, occurs_at}
use Rattle.blocks.specs.Handed.{partner_at}
use Rattle.blocks.proofs.Tables.{need_bit, needs_tab}
use Rattle.blocks.proofs.need.needs.Goals as goal

pub returns : goal.returns
returns c =
    let a = c.args in
    let row : ℕ → List ℕ = λ f. tab limit (need_bit a.leading.now.equations (occurs_at a.leading.now.rows) (partner_at a.partners) f) in
    (refl, c.tabulated-rows.ensures row (λ i x h p. search rules) ∙ needs_tab a.leading.now.equations (occurs_at a.leading.now.rows) (partner_at a.partners))
