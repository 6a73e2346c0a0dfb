-- `left::held_count` counts one unknown after another.
use mathlib.Core.Path.{◌≡◌}
use mathlib.Core.Bool.{not}
use Prim.Native.Nat.{◌≤◌}
use lib.Dec.{eqb}
use Rattle.laws.specs.Count.{count}
use Rattle.pairing.specs.Holders.{holder}
use Rattle.pairing.proofs.left.held_count.Given as goal

abbrev pub invariant-loop-u : goal.invariant-loop-u
invariant-loop-u l = (l.held ≤ l.u) × (l.held ≡ count l.u (λ u. not (eqb (holder l.holders u) 0)))
