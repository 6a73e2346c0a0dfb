-- `card::text::front_number` meets its contract: the loop keeps `Taken`, that the number is what is read so far with the digits to come.
use mathlib.Core.Path.{sym, ◌∙◌}
use Rattle.card.proofs.TextLaws.{taken_end, taken_stop, taken_step}
use Rattle.card.proofs.text.front_number.Goals as goal
use Rattle.card.proofs.text.front_number.Goals.{then-text-at-via-then-text-at, then-text-at-via-else-text-at+then-not-is_ascii_digit-2}

pub returns-then-text-at : goal.returns-then-text-at
returns-then-text-at c = elim c.then-text-at.branch [
  | then-text-at-via-then-text-at w ↦ taken_end c.loop-at.invariant w.if-text-at.true
  | then-text-at-via-else-text-at+then-not-is_ascii_digit-2 w ↦ taken_stop c.loop-at.invariant c.loop-at-test.true w.if-text-at.false (sym w.is_ascii_digit-else-text-at.ensures.value ∙ w.if-not-is_ascii_digit-2.true)
]

pub loop-at-preserved : goal.loop-at-preserved
loop-at-preserved c =
    rw c.from-in-loop-at.ensures (taken_step c.loop-at.invariant c.loop-at-test.true c.if-text-at.false
    (sym c.is_ascii_digit-else-text-at.ensures.value ∙ c.if-not-is_ascii_digit-2.false))
