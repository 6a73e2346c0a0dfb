-- Equations and unknowns exchanged: what is unfixed is what is surplus in the turned table, since turning takes largest pairings to largest pairings.
use mathlib.Core.Path.{◌≡◌, ◌∙◌}
use mathlib.Core.Bool.{Bool, true}
use mathlib.Core.Logic.{◌↔◌}
use Prim.Native.Nat.{ℕ, ◌<◌}
use Rattle.pairing.specs.Pairing.{Rel, turn, Rank, Surplus, Unfixed}
use Rattle.pairing.proofs.Sizes.{size_turned, largest_turned}
use Rattle.pairing.specs.Certificate.{Certificate}
use Rattle.pairing.proofs.Certificate.{left_over}

pub rank_turned : {m n k : ℕ} {edge : Rel} → Rank m n edge k → Rank n m (turn edge) k
rank_turned r = record { pairs = turn r.pairs; largest = largest_turned r.largest; counts = size_turned r.largest.ok ∙ r.counts }

pub unfixed_turned : {m n : ℕ} {edge : Rel} {u : ℕ} → Unfixed m n edge u ↔ Surplus n m (turn edge) u
unfixed_turned = (
  λ s. record { pairs = turn s.pairs; largest = largest_turned s.largest; over = s.over },
  λ s. record { pairs = turn s.pairs; largest = largest_turned s.largest; over = s.over },
)

-- so a certificate of the turned table decides what is unfixed
pub left_over_unknown : {m n : ℕ} {edge M : Rel} {X : ℕ → Bool} → Certificate n m (turn edge) M X → (u : ℕ) → u < n → (X u ≡ true) ↔ Unfixed m n edge u
left_over_unknown c u h = (λ x. unfixed_turned.1 ((left_over c u h).0 x), λ s. (left_over c u h).1 (unfixed_turned.0 s))
