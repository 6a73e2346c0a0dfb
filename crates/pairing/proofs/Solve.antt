-- Solvable: as many unknowns as equations, and a largest pairing that takes in all of them. So exactly if no equation is surplus and no unknown unfixed.
use mathlib.Core.Path.{◌≡◌, ◌∙◌}
use mathlib.Core.Logic.{◌↔◌}
use Prim.Native.Nat.{ℕ, ◌<◌}
use Rattle.laws.proofs.Tests.{given, not_true}
use Rattle.pairing.specs.Pairing.{Rel, turn, Rank, Full, Solvable, Surplus, Unfixed}
use Rattle.pairing.proofs.Sizes.{pairing_turned, full_size, size_full, full_largest, full_turned, largest_size, rank_one}
use Rattle.pairing.proofs.Certify.{certify}
use Rattle.pairing.proofs.Certificate.{each}
use Rattle.pairing.proofs.Turn.{rank_turned, unfixed_turned}

pub full_rank : {m n : ℕ} {edge M : Rel} → Full m n edge M → Rank m n edge m
full_rank {M = M} f = record { pairs = M; largest = full_largest f; counts = full_size f }

-- in a largest pairing of m equations none is left over
pub none_surplus : {m n : ℕ} {edge : Rel} → Rank m n edge m → (e : ℕ) → e < m → Surplus m n edge e → ⊥
none_surplus r e h s =
    given ((size_full s.largest.ok (largest_size s.largest r.largest ∙ r.counts)).every e h) (λ (u, t). s.over u t)

pub solvable_turned : {m n : ℕ} {edge : Rel} → Solvable m n edge → Solvable n m (turn edge)
solvable_turned s = record {
  pairs = turn s.pairs;
  equations = record { ok = pairing_turned s.equations.ok; every = s.unknowns };
  unknowns = s.equations.every;
}

pub solvable_rank : {m n : ℕ} {edge : Rel} → Solvable m n edge ↔ ((m ≡ n) × Rank m n edge m)
solvable_rank = (
  λ s. let r = full_rank s.equations in (rank_one r (rank_turned (full_rank (solvable_turned s).equations)), r),
  λ (same, r). let f = size_full r.largest.ok r.counts in record { pairs = r.pairs; equations = f; unknowns = (full_turned same f).every },
)

-- a largest pairing of a model without surplus equations is full: its certificate's set has no member
none_full : {m n k : ℕ} {edge : Rel} (r : Rank m n edge k) → ((e : ℕ) → e < m → Surplus m n edge e → ⊥) → Full m n edge r.pairs
none_full r none = let c = certify r.largest in record { ok = c.ok; every = λ e h. c.out e h (not_true (λ x. none e h (each c e x))) }

pub solvable_none : {m n k : ℕ} {edge : Rel} → Rank m n edge k
    → Solvable m n edge ↔ (((e : ℕ) → e < m → Surplus m n edge e → ⊥) × ((u : ℕ) → u < n → Unfixed m n edge u → ⊥))
solvable_none r = (
  λ s. (none_surplus (full_rank s.equations), λ u h k. none_surplus (full_rank (solvable_turned s).equations) u h (unfixed_turned.0 k)),
  λ (e, u).
      let a = full_rank (none_full r e) in
      let b = full_rank (none_full (rank_turned r) (λ v h k. u v h (unfixed_turned.1 k))) in
      solvable_rank.1 (rank_one a (rank_turned b), a),
)
