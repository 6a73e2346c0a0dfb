-- `rows::lent_row` takes the bytes from the row's first on.
use Rattle.std.proofs.Common.{rules}
use Prim.Native.Nat.{ℕ, ◌+◌}
use lib.ListN.{get_or}
use Rattle.table.proofs.rows.lent_row.Goals as goal

pub returns : goal.returns
returns c = c.tabulated.ensures (λ (u : ℕ). get_or c.args.table.now (c.args.at + u) 0) (λ i x h p. search rules)
