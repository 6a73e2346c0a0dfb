-- `card::name_of` meets its contract: the whole card is judged, and the part lies behind `rig=` or at the start.
use mathlib.Core.Path.{refl, sym, ◌∙◌}
use Rattle.card.proofs.ReadLaws.{name_good}
use Rattle.card.proofs.name_of.Goals as goal

pub returns : goal.returns
returns c = name_good c.read_list.result c.read_head.ensures c.in-Ok.is c.read_list.ensures (sym c.is_err.ensures.value ∙ c.if-is_err.false) refl
