-- Document 01's printed example, the same card with the gauge out (model B), and refusals, from the card's bytes to the printed bytes. What a card comes to
-- and the text are computed; what the analysis hands back is a row of the checked models.
use mathlib.Core.Path.{◌≡◌, refl}
use mathlib.Core.List.{List, [], ◌∷◌}
use Prim.Native.Nat.{ℕ, ◌<◌}
use native.Mathlib.Omega.{arith}
use lib.ListN.{length}
use Rattle.laws.specs.Tab.{tab}
use Rattle.laws.specs.Text.{bytes}
use Rattle.card.specs.Text.{dec}
use Rattle.analysis.specs.Models.{models}
use Rattle.analysis.proofs.Checked.{checked_models}
use Rattle.report.specs.Printed.{solvable_lines, refused_text, place_dec, input_limit, Printed}
use Rattle.report.specs.Steps.{solvable_text, singular_text}
use Rattle.report.proofs.Truth.{answered_prints}
use Rattle.report.proofs.Theorems.{PrintsOnly, prints_only}

-- the card of document 01, and what is printed for it
abbrev pub kestrel : List ℕ
kestrel = bytes "rig=kestrel-4\nequations=3\nunknowns=3\noccurs=1,1,1\noccurs=1,3,0\noccurs=2,2,0\noccurs=2,3,0\noccurs=3,1,0\nend=5\n"

abbrev pub kestrel_printed : List ℕ
kestrel_printed = bytes "rig=kestrel-4\nverdict=solvable\nindex=1\nfreedom=0\ncounts=0,0,1\ntops=1,0,0\npairs=3,2,1\nblocks=3;1;2\n"

pub printed_example : Printed kestrel kestrel_printed
unfolding models tab dec solvable_text
printed_example = record {
  long = λ h. absurd (omega arith);
  short = λ _. answered_prints kestrel refl (record { number = _; answer = _; reply = checked_models.0 _ (omega arith); says = refl });
}

pub example_only : PrintsOnly kestrel kestrel_printed
example_only = prints_only printed_example

-- the same without the gauge, equation 3: no equation is surplus, which is `none`, and no unknown is fixed
abbrev pub gauge_out : List ℕ
gauge_out = bytes "rig=kestrel-4\nequations=2\nunknowns=3\noccurs=1,1,1\noccurs=1,3,0\noccurs=2,2,0\noccurs=2,3,0\nend=4\n"

abbrev pub gauge_out_printed : List ℕ
gauge_out_printed = bytes "rig=kestrel-4\nverdict=singular\nrank=2\nsurplus=none\nunfixed=1,2,3\n"

pub printed_gauge_out : Printed gauge_out gauge_out_printed
unfolding models tab dec singular_text
printed_gauge_out = record {
  long = λ h. absurd (omega arith);
  short = λ _. answered_prints gauge_out refl (record { number = _; answer = _; reply = checked_models.1.0 _ (omega arith); says = refl });
}

pub gauge_out_only : PrintsOnly gauge_out gauge_out_printed
gauge_out_only = prints_only printed_gauge_out

-- `equations=` with nothing after it
pub no_number : Printed (bytes "rig=a\nequations=\n") (bytes "refused=11\nplace=6\n")
unfolding refused_text place_dec dec
no_number = record { long = λ h. absurd (omega arith); short = λ _. refl }

-- `rig=`
pub no_name : Printed (bytes "rig=\n") (bytes "refused=12\nplace=0\n")
unfolding refused_text place_dec dec
no_name = record { long = λ h. absurd (omega arith); short = λ _. refl }

-- any input above 16,384 bytes
pub too_long : (input : List ℕ) → input_limit < length input → Printed input (bytes "refused=19\nplace=0\n")
unfolding refused_text place_dec dec
too_long input h = record { long = λ _. refl; short = λ k. absurd (omega arith) }

-- a place of five digits
pub far_down : refused_text 16 14838 ≡ bytes "refused=16\nplace=14838\n"
unfolding refused_text place_dec dec
far_down = refl

-- two blocks, the first of two equations
pub two_blocks : solvable_lines (bytes "a") 0 0 (0 ∷ 0 ∷ 0 ∷ []) (0 ∷ 0 ∷ 0 ∷ []) (1 ∷ 2 ∷ 3 ∷ []) (2 ∷ 3 ∷ 1 ∷ []) (1 ∷ 1 ∷ 2 ∷ [])
    ≡ bytes "rig=a\nverdict=solvable\nindex=0\nfreedom=0\ncounts=0,0,0\ntops=0,0,0\npairs=1,2,3\nblocks=2,3;1\n"
unfolding dec
two_blocks = refl
