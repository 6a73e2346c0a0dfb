-- What is kept while the counts are raised and the equations are paired one after another; inside this crate only.
use Rattle.std.specs.Prelude.{◌≡◌, Bool, true, false, List, ℕ, ◌+◌, ◌*◌, ◌<◌, ◌≤◌, ltb, replicate}
use Rattle.laws.specs.Count.{bit, sum}
use Rattle.laws.specs.Marks.{marked}
use Rattle.laws.specs.Tab.{tab, pick, number_at}
use Rattle.table.specs.Model.{limit, occurs_at, order_at}
use Rattle.std.specs.declared.option.Option.{Option}
use Rattle.table.specs.declared.number.Equation.{Equation}
use Rattle.pairing.specs.Pairing.{Rel, Pairing, LeftOver}
use Rattle.pairing.specs.Holders.{held, Nothing}
use Rattle.counts.specs.Fit.{Fits, high, leading}
use Rattle.counts.specs.Work.{top_order}

-- the equations before place f are paired, and the others not yet
pub record Paired (n : ℕ) (edge : Rel) (f : ℕ) (M : Rel) : Type 0 where
  pub pairs : Pairing n n edge M
  pub placed : (e : ℕ) → e < f → (u : ℕ) × (M e u ≡ true)
  pub waiting : (e : ℕ) → f ≤ e → LeftOver M e

-- the equations before place f are paired over leading occurrences, and the others not yet; no count is larger than in any fit choice;
-- and by as much as a count has risen, the tops' sum has come nearer to the counts' sum
pub record Kept (n : ℕ) (edge : Rel) (ord : ℕ → ℕ → ℕ) (f : ℕ) (c : ℕ → ℕ) (M : Rel) : Type 0 where
  pub upto : Paired n (leading edge ord c (high n edge ord c)) f M
  pub low : (c' d' : ℕ → ℕ) → Fits n n edge ord c' d' → (e : ℕ) → e < n → c e ≤ c' e
  pub room : (e : ℕ) → e < n → c e + sum n (high n edge ord c) ≤ n * top_order + sum n c
  pub beyond : (e : ℕ) → n ≤ e → c e ≡ 0

-- the same of a table, a list of counts and the holders
abbrev pub KeptIn : ℕ → List (List ℕ) → ℕ → List ℕ → List (Option Equation) → Type 0
KeptIn n t f counts holders = Kept n (occurs_at t) (order_at t) f (number_at counts) (held holders)

-- 1 more for each that is marked, as far as n, and 0 beyond
abbrev pub raised_by : ℕ → List ℕ → List Bool → List ℕ
raised_by n counts asked = tab limit (λ e. pick (ltb e n) (number_at counts e + bit (marked asked e)) 0)

-- how far the pairing went: all are paired, or the search of the equation at place f found nothing
pub record Went (n : ℕ) (edge : Rel) (f : ℕ) (holders : List (Option Equation)) (asked : List Bool) : Type 0 where
  pub upto : Paired n edge f (held holders)
  pub far : f ≤ n
  pub stopped : f < n → Nothing n edge f (replicate limit false) asked holders
