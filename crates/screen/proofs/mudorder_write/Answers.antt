-- `screen::mudorder_write` meets its contract: the writer's numbers, each in its place.
use Rattle.card.proofs.Theorems.{write_fits}
use native.Mathlib.Omega.{arith}
use Rattle.screen.proofs.mudorder_write.Goals as goal

pub pack-requires : goal.pack-requires
pack-requires c = (omega arith, omega arith, omega (arith, (write_fits c.in-Ok.ensures).length_fits), omega arith)

pub pack_refused-requires : goal.pack_refused-requires
pack_refused-requires c = omega (arith, (write_fits c.in-Err.ensures).place)
