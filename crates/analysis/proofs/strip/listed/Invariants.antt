-- `strip::listed` meets its contract: the stretch lists what was yielded so far, by number.
use mathlib.Core.Path.{◌≡◌}
use mathlib.Core.List.{map}
use Prim.Native.Nat.{suc}
use Rattle.analysis.specs.Outcome.{strip}
use Rattle.analysis.proofs.strip.listed.Given as goal

abbrev pub invariant-loop-at : goal.invariant-loop-at
invariant-loop-at l = l.stretch ≡ strip (map (λ p. suc p.1) l.yielded)
