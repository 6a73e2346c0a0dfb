-- A judged table whose rank is full has some pairing of all its equations.
use mathlib.Core.Path.{◌≡◌, ◌∙◌}
use mathlib.Core.Bool.{true}
use mathlib.Core.List.{List}
use Prim.Native.Nat.{ℕ}
use lib.ListN.{length}
use Rattle.table.specs.Model.{first_above, well_sized, occurs_at, rows_of}
use Rattle.table.proofs.Model.{rows_bounded}
use Rattle.pairing.specs.Pairing.{Rank}
use Rattle.pairing.proofs.Sizes.{size_full}
use Rattle.counts.specs.Work.{Pairable}

pub pairable : (n : ℕ) (b : List ℕ) (k : ℕ) → well_sized n n b ≡ true → first_above b ≡ length b
    → Rank n n (occurs_at (rows_of n n b)) k → k ≡ n → Pairable n (rows_of n n b)
pairable n b k w f r e = record { bounded = rows_bounded n n b w f; pairs = r.pairs; full = size_full r.largest.ok (r.counts ∙ e) }
