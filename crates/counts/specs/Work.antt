-- Counts and tops as the code has them: lists, by place, with 0 beyond the last equation and unknown.
use Rattle.std.specs.Prelude.{◌≡◌, ◌&&◌, List, ℕ, ◌-◌, ◌*◌, ◌<◌, ◌≤◌, ltb}
use Rattle.laws.specs.Count.{bit}
use Rattle.laws.specs.Tab.{tab, pick, number_at}
use Rattle.table.specs.Model.{limit, top_code, Bounded, occurs_at, order_at, square}
use Rattle.std.specs.declared.option.Option.{Option}
use Rattle.table.specs.declared.number.Equation.{Equation}
use Rattle.table.specs.declared.rows.Table.{Table}
use Rattle.pairing.specs.Pairing.{Rel, Full}
use Rattle.pairing.specs.Holders.{held}
use Rattle.counts.specs.Fit.{Least, high, leading}

-- the largest order there is: the largest code less 1
abbrev pub top_order : ℕ
top_order = top_code - 1

-- the tops that belong to counts, and 0 beyond the last unknown
abbrev pub high_at : ℕ → List (List ℕ) → List ℕ → ℕ → ℕ
high_at n t counts = high n (occurs_at t) (order_at t) (number_at counts)

abbrev pub tops_of : ℕ → List (List ℕ) → List ℕ → List ℕ
tops_of n t counts = tab limit (λ u. pick (ltb u n) (high_at n t counts u) 0)

-- the leading occurrences of counts and tops
abbrev pub leading_at : List (List ℕ) → List ℕ → List ℕ → Rel
leading_at t counts tops = leading (occurs_at t) (order_at t) (number_at counts) (number_at tops)

-- the table of leading occurrences: code 1 where one is, 0 elsewhere and outside n × n
abbrev pub leading_rows : ℕ → List (List ℕ) → List ℕ → List ℕ → List (List ℕ)
leading_rows n t counts tops = square (λ e u. bit (ltb e n && (ltb u n && leading_at t counts tops e u)))

-- what keeps order + count within a byte
pub record Small (n : ℕ) (t : List (List ℕ)) (counts : List ℕ) : Type 0 where
  pub bounded : Bounded n n t
  pub few : (e : ℕ) → e < n → number_at counts e ≤ limit * top_order

-- a table of n equations and n unknowns that was judged, and some pairing of all its equations
pub record Pairable (n : ℕ) (t : List (List ℕ)) : Type 0 where
  pub bounded : Bounded n n t
  pub pairs : Rel
  pub full : Full n n (occurs_at t) pairs

-- a square table that is pairable
pub record PairableTable (t : Table) : Type 0 where
  pub square : t.equations ≡ t.unknowns
  pub pairable : Pairable t.equations t.rows

-- the answer: the least counts, their tops, and a pairing of all equations over the leading occurrences; 0 beyond the last equation and unknown
pub record Chosen (n : ℕ) (t : List (List ℕ)) (counts tops : List ℕ) (holders : List (Option Equation)) : Type 0 where
  pub least : Least n n (occurs_at t) (order_at t) (number_at counts) (number_at tops)
  pub paired : Full n n (leading_at t counts tops) (held holders)
  pub counts_beyond : (e : ℕ) → n ≤ e → number_at counts e ≡ 0
  pub tops_beyond : (u : ℕ) → n ≤ u → number_at tops u ≡ 0
