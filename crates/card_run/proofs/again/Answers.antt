-- `again` is safe and ends: what the writer says that it wrote is within the buffer.
use Rattle.std.proofs.Common.{◌≡◌, refl, sym, ◌∙◌, ℕ, arith, length, length-take-le}
use Rattle.std.specs.Prelude.{Result, Ok, Err}
use Rattle.std.specs.Result.{result_unwrap_or}
use Rattle.card.specs.Refusal.{written_length}
use Rattle.card.specs.declared.refusal.Refused.{Refused}
use Rattle.card.proofs.Theorems.{write_fits}
use Rattle.card_run.proofs.again.Goals as goal

length_is : (written : Result ℕ Refused) → result_unwrap_or written 0 ≡ written_length written
length_is (Ok length) = refl
length_is (Err refused) = refl

pub slice_bounds-card-end : goal.slice_bounds-card-end
slice_bounds-card-end g c =
    omega (arith, c.unwrap_or-length.ensures ∙ length_is c.write-written.result, (write_fits c.write-written.ensures).length_fits, c.write-written.auto.card)

pub slice_bounds-eq-end : goal.slice_bounds-eq-end
slice_bounds-eq-end g c =
    sym (length-take-le _ _ (omega (arith, c.unwrap_or-length.ensures ∙ length_is c.write-written.result, (write_fits c.write-written.ensures).length_fits, c.write-written.auto.card)))
