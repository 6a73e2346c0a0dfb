-- Document 01, "Counts, tops, partners": equation 1 gets the lowest-numbered unknown with which all the others can still be paired, then equation 2 likewise, and so on.
use Rattle.std.specs.Prelude.{◌≡◌, true, ℕ, ◌<◌, ◌≤◌}
use Rattle.pairing.specs.Pairing.{Rel}

-- each equation has an unknown of its own that occurs in it: a pairing of all equations, as a function
pub record Partners (m n : ℕ) (edge : Rel) (p : ℕ → ℕ) : Type 0 where
  pub col : (e : ℕ) → e < m → p e < n
  pub fits : (e : ℕ) → e < m → edge e (p e) ≡ true
  pub own : (e f : ℕ) → e < m → f < m → p e ≡ p f → e ≡ f

-- the first: whatever agrees with it on the equations before e gives e no lower unknown
pub record First (m n : ℕ) (edge : Rel) (p : ℕ → ℕ) : Type 0 where
  pub ok : Partners m n edge p
  pub low : (q : ℕ → ℕ) → Partners m n edge q → (e : ℕ) → e < m → ((i : ℕ) → i < e → q i ≡ p i) → p e ≤ q e
