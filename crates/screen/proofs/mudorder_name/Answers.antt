-- `screen::mudorder_name` meets its contract: an empty part is a refusal's, and any other starts behind `rig=`.
use Rattle.screen.proofs.Unpacked.{name_none}
use Rattle.card.proofs.Theorems.{name_fits}
use native.Mathlib.Omega.{arith}
use borrow.Author.Tests.{eqb-true}
use mathlib.Core.Path.{sym, ◌∙◌}
use Rattle.screen.proofs.mudorder_name.Goals as goal

pub returns-then-is_empty : goal.returns-then-is_empty
returns-then-is_empty c = name_none c.args.card.now c.name_of-part.ensures.bytes (eqb-true _ _ (sym c.is_empty.ensures ∙ c.if-is_empty.true))

pub pack-requires : goal.pack-requires
pack-requires c =
    (rw c.name_of-part.ensures.bytes (omega (arith, name_fits c.args.card.now)), omega arith, omega arith, omega arith)
