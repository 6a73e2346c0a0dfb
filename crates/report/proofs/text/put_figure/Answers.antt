-- `text::put_figure`: a figure has at most four digits.
use native.Mathlib.Omega.{arith}
use lib.ListN.{length-append}
use Prim.Native.Nat.{ℕ}
use Rattle.card.proofs.PutLaws.{dec_short}
use Rattle.report.proofs.text.put_figure.Goals as goal

pub returns-clause-near : goal.returns-clause-near
returns-clause-near c = omega (arith, c.put_line.ensures.laid.place, length-append {A = ℕ}, dec_short c.from.result)
