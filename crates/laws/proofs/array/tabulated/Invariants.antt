-- `array::tabulated` fills one place after another.
use Rattle.std.proofs.Common.{◌≡◌, ℕ, ◌<◌}
use Rattle.laws.specs.Tab.{tab, upto}
use Rattle.laws.proofs.array.tabulated.Given as goal

abbrev pub invariant-loop-i : goal.invariant-loop-i
invariant-loop-i g l = (f : _) → ((i : ℕ) (x : _) → i < l.fn.n → goal.F-post g l.each i x → x ≡ f i) → l.all ≡ tab g.row.N (upto l.i f (λ _. l.fn.beyond))
