-- `list::put_joined`: behind the first number stand so many of the others, each behind what splits it from the one before.
use Rattle.std.proofs.Common.{◌≡◌, ℕ, ◌+◌, ◌*◌, ◌<◌, ◌≤◌, length, take}
use Rattle.card.specs.Laid.{LaidOn}
use Rattle.report.specs.Printed.{further}
use Rattle.report.proofs.list.put_joined.Given as goal

abbrev pub invariant-loop-i : goal.invariant-loop-i
invariant-loop-i g l = record {
  near : l.sheet.at ≤ l.initial.sheet.at + 5 * l.i;
  run : (f : ℕ → ℕ) → ((i : ℕ) (b : ℕ) → i + 1 < length l.numbers → goal.F-post g l.split i b → b ≡ f i)
      → LaidOn l.initial.sheet (further f (take l.i l.others)) l.sheet;
}
