-- What the functions are handed and hand back: the definitions of Blocks at the arrays of the code.
use Rattle.std.specs.Prelude.{◌≡◌, true, List, ℕ, ◌-◌, ◌<◌, ◌≤◌}
use Rattle.laws.specs.Count.{bit}
use Rattle.laws.specs.Tab.{number_at}
use Rattle.table.specs.Model.{limit, Numbered, occurs_at, square}
use Rattle.table.specs.Number.{equation_at}
use Rattle.std.specs.declared.option.Option.{Option}
use Rattle.table.specs.declared.number.Equation.{Equation}
use Rattle.table.specs.declared.number.Unknown.{Unknown}
use Rattle.pairing.specs.Pairing.{Rel}
use Rattle.pairing.specs.Handed.{partner_of}
use Rattle.blocks.specs.Blocks.{Reaches, Placed}

-- the place of the partner of the equation at place e
abbrev pub partner_at : List (Option Unknown) → ℕ → ℕ
partner_at p e = partner_of p e - 1

-- within the limit, and each equation has a partner
pub record Partnered (m : ℕ) (p : List (Option Unknown)) : Type 0 where
  pub few : m ≤ limit
  pub each : (e : ℕ) → e < m → Numbered (partner_of p e)

-- a relation between equations alone
pub record Within (m : ℕ) (R : Rel) : Type 0 where
  pub row : (e f : ℕ) → R e f ≡ true → e < m
  pub col : (e f : ℕ) → R e f ≡ true → f < m

-- a relation that reaches no more than it has
pub record Closed (m : ℕ) (T : Rel) : Type 0 where
  pub within : Within m T
  pub self : (e : ℕ) → e < m → T e e ≡ true
  pub onward : (e f g : ℕ) → T e f ≡ true → T f g ≡ true → T e g ≡ true

-- a table of codes 1 and 0
abbrev pub Bits : List (List ℕ) → Type 0
Bits t = t ≡ square (λ e f. bit (occurs_at t e f))

-- the table of what is reached
pub record ReachTable (m : ℕ) (needs : Rel) (t : List (List ℕ)) : Type 0 where
  pub bits : Bits t
  pub row : (e f : ℕ) → occurs_at t e f ≡ true → e < m
  pub col : (e f : ℕ) → occurs_at t e f ≡ true → f < m
  pub only : (e f : ℕ) → occurs_at t e f ≡ true → Reaches needs e f
  pub all : (e f : ℕ) → e < m → f < m → Reaches needs e f → occurs_at t e f ≡ true

-- the placing as it is handed back: equation numbers in solving order, block numbers, and 0 beyond the last equation
pub record PlacingIs (m : ℕ) (needs : Rel) (order : List (Option Equation)) (block : List ℕ) (blocks : ℕ) : Type 0 where
  pub placed : Placed m needs (λ i. equation_at order i - 1) (number_at block) blocks
  pub numbers : (i : ℕ) → i < m → 1 ≤ equation_at order i
  pub no_equation : (i : ℕ) → m ≤ i → equation_at order i ≡ 0
  pub no_block : (i : ℕ) → m ≤ i → number_at block i ≡ 0
