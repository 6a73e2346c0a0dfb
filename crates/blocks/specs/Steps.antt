-- How the functions of this crate go: what their inner contracts cite. Nothing here is needed to read what the crate promises.
use Rattle.std.specs.Prelude.{◌≡◌, Bool, true, false, not, ◌&&◌, ◌||◌, List, ℕ, zero, suc, ◌+◌, ◌<◌, ◌≤◌, ltb, eqb}
use Rattle.std.specs.declared.option.Option.{Option}
use Rattle.std.specs.declared.option.Option.TheVariants.{None, Some}
use Rattle.laws.specs.Count.{count, any}
use Rattle.laws.specs.Tab.{pick, number_at}
use Rattle.table.specs.Model.{code_at}
use Rattle.table.specs.declared.number.Equation.{Equation}
use Rattle.pairing.specs.Pairing.{Rel}
use Rattle.table.specs.Number.{equation_at}

-- what is reached by no need or by one
abbrev pub at_once : ℕ → Rel → Rel
at_once m R e g = R e g || (ltb e m && eqb e g)

-- what is reached if the way may lead through k besides
abbrev pub through_at : ℕ → Rel → Rel
through_at k T e g = T e g || (T e k && T k g)

-- what is reached by ways through equations below k
abbrev pub ways : ℕ → Rel → ℕ → Rel
ways m R zero = at_once m R
ways m R (suc k) = through_at k (ways m R k)

-- T a table of what is reached, num e the number of e's block, or 0 while it does not stand

abbrev pub both : Rel → Rel
both T e f = T e f && T f e

-- g keeps e's block from being placed: it is reached and does not reach back, and it does not stand
abbrev pub keeps_at : Rel → (ℕ → ℕ) → ℕ → ℕ → Bool
keeps_at T num e g = T e g && (not (T g e) && eqb (num g) 0)

-- e's block is ready, and does not stand yet
abbrev pub waits_at : ℕ → Rel → (ℕ → ℕ) → ℕ → Bool
waits_at m T num e = eqb (num e) 0 && not (any m (keeps_at T num e))

-- the lowest that waits, or none where none does
abbrev pub Lowest : ℕ → Rel → (ℕ → ℕ) → Option ℕ → Type 0
Lowest m T num (Some e) = (e < m) × (waits_at m T num e ≡ true) × ((f : ℕ) → f < e → waits_at m T num f ≡ false)
Lowest m T num None = (f : ℕ) → f < m → waits_at m T num f ≡ false

-- e's block gets number k
abbrev pub renumbered : Rel → (ℕ → ℕ) → ℕ → ℕ → ℕ → ℕ
renumbered T num e k f = pick (both T e f) k (num f)

-- f stands before e: in an earlier block, or in the same block and lower
abbrev pub earlier_at : (ℕ → ℕ) → ℕ → ℕ → Bool
earlier_at num f e = pick (eqb (num f) (num e)) (ltb f e) (ltb (num f) (num e))

-- the place of e: how many stand before it
abbrev pub place_of : ℕ → (ℕ → ℕ) → ℕ → ℕ
place_of m num e = count m (λ f. earlier_at num f e)

-- the equations below e stand at their places, with their numbers, and beyond the last equation there is nothing
pub record Standing (m : ℕ) (num : ℕ → ℕ) (order : List (Option Equation)) (block : List ℕ) (e : ℕ) : Type 0 where
  pub equation : (f : ℕ) → f < e → equation_at order (place_of m num f) ≡ f + 1
  pub number : (f : ℕ) → f < e → number_at block (place_of m num f) ≡ num f
  pub no_equation : (i : ℕ) → m ≤ i → equation_at order i ≡ 0
  pub no_block : (i : ℕ) → m ≤ i → number_at block i ≡ 0

-- numbers 1 to k given so far, as the plain statement has it, by equations instead of places
pub record Numbering (m : ℕ) (T : Rel) (num : ℕ → ℕ) (k : ℕ) : Type 0 where
  pub most : (e : ℕ) → e < m → num e ≤ k
  pub used : (v : ℕ) → 1 ≤ v → v ≤ k → (e : ℕ) × (e < m) × (num e ≡ v)
  pub same : (e f : ℕ) → e < m → f < m → 1 ≤ num e → num e ≡ num f → both T e f ≡ true
  pub shared : (e f : ℕ) → e < m → f < m → both T e f ≡ true → num e ≡ num f
  pub ready : (e g : ℕ) → e < m → 1 ≤ num e → T e g ≡ true → (1 ≤ num g) × (num g ≤ num e)
  pub lowest : (e f : ℕ) → e < m → f < m → 1 ≤ num e → (1 ≤ num f → num e ≤ num f)
      → ((g : ℕ) → T f g ≡ true → T g f ≡ false → (1 ≤ num g) × (num g < num e))
      → (h : ℕ) × (h < m) × (num h ≡ num e) × (h ≤ f)

-- the same when all equations stand
pub record AllNumbered (m : ℕ) (T : Rel) (num : ℕ → ℕ) (k : ℕ) : Type 0 where
  pub numbering : Numbering m T num k
  pub all : (e : ℕ) → e < m → 1 ≤ num e

-- codes: 1 where the second says so, else the first; and `through_at` of codes
abbrev pub either : ℕ → ℕ → ℕ
either code other = pick (eqb other 0) code 1

abbrev pub through_code : List (List ℕ) → ℕ → ℕ → ℕ → ℕ
through_code t k e g = pick (eqb (code_at t e k) 0) (code_at t e g) (either (code_at t e g) (code_at t k g))
