-- Document 01, "Counts, tops, partners".
-- Equations and unknowns are spoken of by their places, counted from 0. m is the number of equations, n that of unknowns;
-- `edge e u` says that unknown u occurs in equation e, and `ord e u` at which order. c gives each equation its count, d each unknown its top.
use Rattle.std.specs.Prelude.{◌≡◌, true, ◌&&◌, ℕ, zero, suc, ◌+◌, ◌-◌, ◌<◌, ◌≤◌, max, eqb}
use Rattle.laws.specs.Count.{sum}
use Rattle.laws.specs.Tab.{pick}
use Rattle.pairing.specs.Pairing.{Rel, Full}

-- counts and tops are fit when d is at least order + c at every occurrence, and some pairing of all equations has d = order + c at each of its pairs
pub record Fits (m n : ℕ) (edge : Rel) (ord : ℕ → ℕ → ℕ) (c d : ℕ → ℕ) : Type 0 where
  pub over : (e u : ℕ) → e < m → u < n → edge e u ≡ true → ord e u + c e ≤ d u
  pub pairs : Rel
  pub full : Full m n edge pairs
  pub tight : (e u : ℕ) → pairs e u ≡ true → d u ≡ ord e u + c e

-- the answer: the fit choice whose every count is no larger than in any other fit choice
pub record Least (m n : ℕ) (edge : Rel) (ord : ℕ → ℕ → ℕ) (c d : ℕ → ℕ) : Type 0 where
  pub fit : Fits m n edge ord c d
  pub least : (c' d' : ℕ → ℕ) → Fits m n edge ord c' d' → (e : ℕ) → e < m → c e ≤ c' e

-- the largest of f 0 .. f (n - 1), and 0 where there is none
abbrev pub largest : ℕ → (ℕ → ℕ) → ℕ
largest zero f = 0
largest (suc n) f = max (f n) (largest n f)

-- the largest order + c over an unknown's occurrences
abbrev pub high : ℕ → Rel → (ℕ → ℕ → ℕ) → (ℕ → ℕ) → ℕ → ℕ
high m edge ord c u = largest m (λ e. pick (edge e u) (ord e u + c e) 0)

-- an occurrence is leading when d = order + c there
abbrev pub leading : Rel → (ℕ → ℕ → ℕ) → (ℕ → ℕ) → (ℕ → ℕ) → Rel
leading edge ord c d e u = edge e u && eqb (d u) (ord e u + c e)

-- index: the largest count
abbrev pub index_of : ℕ → (ℕ → ℕ) → ℕ
index_of m c = largest m c

-- freedom: sum of tops less sum of counts
abbrev pub freedom_of : ℕ → ℕ → (ℕ → ℕ) → (ℕ → ℕ) → ℕ
freedom_of m n c d = sum n d - sum m c
