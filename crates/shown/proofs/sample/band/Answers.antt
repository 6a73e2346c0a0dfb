-- `sample::band` has at each place what the definition has there.
use Rattle.std.proofs.Common.{rules}
use mathlib.Core.Path.{◌∙◌}
use Prim.Native.Nat.{ℕ, ◌*◌, ◌/◌, ◌%◌}
use Rattle.laws.proofs.Tab.{whole_tab}
use Rattle.table.specs.Model.{limit}
use Rattle.shown.specs.Sample.{band_code}
use Rattle.shown.proofs.sample.band.Goals as goal

pub returns : goal.returns
returns c =
    let f : ℕ → ℕ = λ at. band_code c.args.next c.args.before c.args.corner c.args.last (at / limit) (at % limit) in
    c.tabulated.ensures f (λ i x h p. search rules) ∙ whole_tab (limit * limit) f 0
