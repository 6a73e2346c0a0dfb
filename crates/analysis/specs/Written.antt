-- What the code of this crate holds, in the terms of the definitions. Nothing here is needed to read what the analysis promises.
use Rattle.std.specs.Prelude.{◌≡◌, List, map, ℕ, ◌-◌, ◌≤◌}
use Rattle.table.specs.Model.{limit, occurs_at, order_at}
use Rattle.pairing.specs.Handed.{FirstIs}
use Rattle.counts.specs.Fit.{Least, index_of, freedom_of}
use Rattle.counts.specs.Work.{leading_rows}
use Rattle.laws.specs.Tab.{number_at}
use Rattle.blocks.specs.Blocks.{needs_at}
use Rattle.blocks.specs.Handed as handed
use Rattle.analysis.specs.declared.solvable.Solution.{Solution}

-- numbers from 1, as places from 0
abbrev pub places_of : List ℕ → List ℕ
places_of l = map (λ x. x - 1) l

-- counts and tops, partners and solving order of a table of n equations, with 0 beyond the last, and the three figures
pub record SolutionIs (n : ℕ) (t : List (List ℕ)) (s : Solution) : Type 0 where
  pub within : n ≤ limit
  pub least : Least n n (occurs_at t) (order_at t) (number_at s.counts) (number_at s.tops)
  pub counts_beyond : (e : ℕ) → n ≤ e → number_at s.counts e ≡ 0
  pub tops_beyond : (u : ℕ) → n ≤ u → number_at s.tops u ≡ 0
  pub first : FirstIs n (occurs_at (leading_rows n t s.counts s.tops)) s.partners
  pub placed : handed.PlacingIs n (needs_at n (occurs_at (leading_rows n t s.counts s.tops)) (handed.partner_at s.partners)) s.order s.block s.blocks
  pub is_index : s.index ≡ index_of n (number_at s.counts)
  pub is_freedom : s.freedom ≡ freedom_of n n (number_at s.counts) (number_at s.tops)
