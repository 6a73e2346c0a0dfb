-- The partners that pairing's function hands out are partners as the solving order asks for them.
use Prim.Native.Nat.{ℕ, ◌≤◌}
use native.Mathlib.Omega.{arith}
use mathlib.Core.List.{List}
use Rattle.table.specs.Model.{limit}
use Rattle.std.specs.declared.option.Option.{Option}
use Rattle.table.specs.declared.number.Unknown.{Unknown}
use Rattle.pairing.specs.Pairing.{Rel}
use Rattle.pairing.specs.Handed.{FirstIs}
use Rattle.blocks.specs.Handed.{Partnered}

pub first_partnered : {m : ℕ} {leading : Rel} {p : List (Option Unknown)} → m ≤ limit → FirstIs m leading p → Partnered m p
first_partnered few F = record {
  few = few;
  each = λ e h. let c = F.first.ok.col e h in record { low = F.numbered e h; high = omega arith };
}
