-- `singular::write` meets its contract: five stretches, each filled by its writer.
use mathlib.Core.List.{[], map}
use Prim.Native.Nat.{suc}
use lib.ListN.{length}
use Rattle.laws.specs.Marks.{marked}
use Rattle.pairing.specs.Members.{members}
use Rattle.analysis.proofs.Put.{put_five}
use Rattle.analysis.proofs.singular.write.Goals as goal

pub returns : goal.returns
returns c =
    let start = c.args in
    put_five start.answer.now (map suc (members (length start.surplus.now) (marked start.surplus.now)))
    (map suc (members (length start.unfixed.now) (marked start.unfixed.now))) [] [] []
    c.listed.ensures c.listed-2.ensures c.unused.ensures c.unused-2.ensures c.unused-3.ensures
