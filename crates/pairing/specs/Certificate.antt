-- What shows that a pairing is a largest one.
use Rattle.std.specs.Prelude.{◌≡◌, Bool, true, false, ℕ, ◌<◌}
use Rattle.pairing.specs.Pairing.{Rel, Pairing, LeftOver}
use Rattle.pairing.specs.Holders.{Reach}

-- the set X shows that the pairing M is a largest one: every equation outside X has a pair, every unknown of one in X is held by one in X,
-- and whoever is in X is reached from one in X that M leaves over
pub record Certificate (m n : ℕ) (edge M : Rel) (X : ℕ → Bool) : Type 0 where
  pub ok : Pairing m n edge M
  pub within : (e : ℕ) → X e ≡ true → e < m
  pub out : (e : ℕ) → e < m → X e ≡ false → (u : ℕ) × (M e u ≡ true)
  pub inn : (e u : ℕ) → X e ≡ true → u < n → edge e u ≡ true → (g : ℕ) × (X g ≡ true) × (M g u ≡ true)
  pub reached : (e : ℕ) → X e ≡ true → (f : ℕ) × (X f ≡ true) × LeftOver M f × Reach edge M f e
