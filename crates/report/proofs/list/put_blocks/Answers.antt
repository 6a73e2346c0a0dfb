-- `list::put_blocks`: what splits two places is that of their block numbers.
use Rattle.std.proofs.Common.{rules}
use Prim.Native.Nat.{ℕ, suc}
use lib.ListN.{get_or}
use Rattle.report.specs.Printed.{split_of}
use Rattle.report.proofs.list.put_blocks.Goals as goal

pub returns : goal.returns
returns c = c.put_joined.ensures (λ (i : ℕ). split_of (get_or c.args.block.now i 0) (get_or c.args.block.now (suc i) 0)) (λ i b h p. search rules)
