-- `first::up_to` marks as many as the equation's number says.
use Rattle.std.proofs.Common.{rules}
use mathlib.Core.Path.{◌≡◌, ◌∙◌}
use mathlib.Core.Bool.{true}
use Prim.Native.Nat.{ℕ, ◌+◌, ◌-◌}
use native.Mathlib.Omega.{arith}
use Rattle.laws.proofs.Tab.{tab_ext, pick_self}
use Rattle.table.specs.Model.{limit}
use Rattle.table.specs.Number.{equation_number}
use Rattle.table.specs.declared.number.Equation.{Equation}
use Rattle.pairing.proofs.first.up_to.Goals as goal

one-more : (e : Equation) → equation_number e - 1 + 1 ≡ equation_number e
one-more e = let p = e.0.ok in omega arith

pub returns : goal.returns
returns c = c.tabulated.ensures (λ (i : ℕ). true) (λ i x h p. search rules) ∙ tab_ext limit _ _ (λ i b. rw (c.place.ensures, one-more c.args.e) (pick_self _))
