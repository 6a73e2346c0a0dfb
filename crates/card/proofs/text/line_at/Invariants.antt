-- `card::text::line_at` meets its contract: as long as no LF was met, the line's end from here is its end from the start.
use mathlib.Core.Path.{◌≡◌}
use lib.ListN.{drop}
use Rattle.card.specs.Text.{lines_of}
use Rattle.card.specs.Steps.{end_of}
use Rattle.card.proofs.text.line_at.Given as goal

abbrev pub invariant-loop-end : goal.invariant-loop-end
invariant-loop-end l = end_of l.at (lines_of (drop l.at l.card)) ≡ end_of l.end (lines_of (drop l.end l.card))
