-- Document 01, "Blocks".
-- Equations are spoken of by their places in the table, counted from 0: document 01's numbers are one more. m is the number of equations.
use Rattle.std.specs.Prelude.{◌≡◌, true, not, ◌&&◌, ℕ, zero, suc, ◌<◌, ◌≤◌, ltb, eqb}
use Rattle.pairing.specs.Pairing.{Rel}

-- equation f needs equation g, both below m: they differ, and g's partner has a leading occurrence in f
abbrev pub needs_at : ℕ → Rel → (ℕ → ℕ) → Rel
needs_at m leading partner f g = ltb f m && (ltb g m && (not (eqb f g) && leading f (partner g)))

-- e reaches g through needs, none or more
pub data Reaches (needs : Rel) : ℕ → ℕ → Type 0 where
  here : {e : ℕ} → Reaches needs e e
  step : {e g : ℕ} (f : ℕ) → needs e f ≡ true → Reaches needs f g → Reaches needs e g

-- e and f share a block: they are the same or each reaches the other
pub record Shares (needs : Rel) (e f : ℕ) : Type 0 where
  pub there : Reaches needs e f
  pub back : Reaches needs f e

-- Blocks placed one by one: `order i` is the equation at place i of the solving order, `block i` is the number of its block.

-- equation g stands in a block with a number below k
pub record Stands (m : ℕ) (order block : ℕ → ℕ) (k g : ℕ) : Type 0 where
  pub place : ℕ
  pub within : place < m
  pub is : order place ≡ g
  pub earlier : block place < k

-- when block k is to be placed, e's block is one of those whose needed other blocks all stand already
pub record Ready (m : ℕ) (needs : Rel) (order block : ℕ → ℕ) (k e : ℕ) : Type 0 where
  pub stand : (f g : ℕ) → Shares needs e f → needs f g ≡ true → (Shares needs e g → ⊥) → Stands m order block k g

-- the number of the block at the place before i, or 0 where there is none
abbrev pub before : (ℕ → ℕ) → ℕ → ℕ
before block zero = 0
before block (suc i) = block i

-- the blocks placed one by one
pub record Placed (m : ℕ) (needs : Rel) (order block : ℕ → ℕ) (blocks : ℕ) : Type 0 where
  -- every equation has one place
  pub within : (i : ℕ) → i < m → order i < m
  pub once : (i j : ℕ) → i < m → j < m → order i ≡ order j → i ≡ j
  pub every : (e : ℕ) → e < m → (i : ℕ) × (i < m) × (order i ≡ e)
  -- blocks are numbered from 1, and there are as many as the last one's number
  pub from_one : (i : ℕ) → i < m → 1 ≤ block i
  pub rises : (i : ℕ) → i < m → before block i ≤ block i
  pub by_one : (i : ℕ) → i < m → block i ≤ suc (before block i)
  pub last : blocks ≡ before block m
  -- the numbers are equal where the equations share a block, and nowhere else
  pub same : (i j : ℕ) → i < m → j < m → block i ≡ block j → Shares needs (order i) (order j)
  pub shared : (i j : ℕ) → i < m → j < m → Shares needs (order i) (order j) → block i ≡ block j
  -- inside a block equations ascend
  pub ascends : (i j : ℕ) → i < j → j < m → block i ≡ block j → order i < order j
  -- of the blocks that are ready, the one with the lowest equation number in it:
  -- if j's block does not stand before i's and is ready when i's is placed, i's block has an equation that is no higher than j's
  pub ready : (i : ℕ) → i < m → Ready m needs order block (block i) (order i)
  pub lowest : (i j : ℕ) → i < m → j < m → block i ≤ block j → Ready m needs order block (block i) (order j)
      → (h : ℕ) × (h < m) × (block h ≡ block i) × (order h ≤ order j)
