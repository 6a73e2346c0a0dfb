-- `card::lay::put_occurs` meets its contract: its parts, one behind another.
use mathlib.Core.Path.{◌∙◌}
use Rattle.card.proofs.PutLaws.{laid_on_then}
use Rattle.card.proofs.WriteLaws.{occurs_parts}
use Rattle.card.proofs.lay.put_occurs.Goals as goal

pub returns : goal.returns
returns c =
    rw (
      ← c.from.ensures ∙ c.get.ensures.value ∙ c.number.ensures,
      ← c.from-2.ensures ∙ c.get-2.ensures.value ∙ c.number-2.ensures,
      ← occurs_parts c.from.result c.from-2.result c.args.order,
    )
    (laid_on_then (laid_on_then (laid_on_then (laid_on_then c.put_all.ensures c.put_comma.ensures) c.put_comma-2.ensures) c.put_number.ensures) c.put.ensures)
