-- `screen::mudorder_read` meets its contract: the reader's numbers, each in its place.
use Rattle.card.proofs.Theorems.{read_fits}
use native.Mathlib.Omega.{arith}
use Rattle.screen.proofs.mudorder_read.Goals as goal

pub pack-requires : goal.pack-requires
pack-requires c =
    let f = read_fits c.in-Ok.ensures in
    (omega arith, omega arith, omega (arith, f.equations), omega (arith, f.unknowns))

pub pack_refused-requires : goal.pack_refused-requires
pack_refused-requires c = omega (arith, (read_fits c.in-Err.ensures).place)
