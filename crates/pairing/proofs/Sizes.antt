-- Sizes of pairings, each by a one-to-one map or a sum: read the other way a pairing has the same size, none is larger than m or n,
-- and one of size m takes in every equation.
use mathlib.Core.Path.{◌≡◌, sym, ◌∙◌}
use mathlib.Core.Bool.{true, false}
use Prim.Native.Nat.{ℕ, ◌<◌, ◌≤◌}
use native.Mathlib.Omega.{arith}
use native.Mathlib.Nat.{le_antisymm}
use Rattle.laws.specs.Count.{any}
use Rattle.laws.proofs.Tests.{given, not_true}
use Rattle.laws.proofs.Search.{any_here, any_where}
use Rattle.laws.proofs.Counts.{count_within, count_all, all_count, count_mono, count_less}
use Rattle.laws.proofs.Inject.{count_inject}
use Rattle.pairing.specs.Pairing.{Rel, turn, Pairing, size, Largest, Rank, Full, LeftOver}

-- equations and unknowns exchanged
pub pairing_turned : {m n : ℕ} {edge M : Rel} → Pairing m n edge M → Pairing n m (turn edge) (turn M)
pairing_turned k = record {
  row = λ u e h. k.col e u h;
  col = λ u e h. k.row e u h;
  fits = λ u e h. k.fits e u h;
  one_u = λ u e f a b. k.one_e e f u a b;
  one_e = λ u v e a b. k.one_u e u v a b;
}

turn_below : {m n : ℕ} {edge M : Rel} → Pairing m n edge M → size n m (turn M) ≤ size m n M
turn_below {m} {n} {edge} {M} k = count_inject n m (λ u. any m (turn M u)) (λ e. any n (M e)) (λ u e. M e u ≡ true) (λ u v e a b. k.one_u e u v a b)
    (λ u h t. given (any_where (turn M u) t) (λ (e, b, w). (e, b, w, any_here (M e) u h w)))

pub size_turned : {m n : ℕ} {edge M : Rel} → Pairing m n edge M → size n m (turn M) ≡ size m n M
size_turned k = le_antisymm (turn_below k) (turn_below (pairing_turned k))

pub size_rows : (m n : ℕ) (M : Rel) → size m n M ≤ m
size_rows m n M = count_within m (λ e. any n (M e))

-- the equation has a pair, or it is left over
pub has_pair : {m n : ℕ} {edge M : Rel} → Pairing m n edge M → (e u : ℕ) → M e u ≡ true → any n (M e) ≡ true
has_pair {M = M} k e u t = any_here (M e) u (k.col e u t) t

pub no_pair : (n : ℕ) (M : Rel) (e : ℕ) → LeftOver M e → any n (M e) ≡ false
no_pair n M e over = not_true (λ t. given (any_where {n = n} (M e) t) (λ (u, b, w). over u w))

-- where whoever has a pair in M has one in Q, Q is no smaller; and larger where someone has one in Q alone
module _ {m n : ℕ} {edge Q : Rel} (M : Rel) (k : Pairing m n edge Q) (kept : (e u : ℕ) → M e u ≡ true → (v : ℕ) × (Q e v ≡ true)) where
  still : (e : ℕ) → e < m → any n (M e) ≡ true → any n (Q e) ≡ true
  still e h t = given (any_where {n = n} (M e) t) (λ (u, b, w). given (kept e u w) (λ (v, x). has_pair k e v x))

  pub covers : size m n M ≤ size m n Q
  covers = count_mono m (λ e. any n (M e)) (λ e. any n (Q e)) still

  pub grows : (f u : ℕ) → LeftOver M f → Q f u ≡ true → size m n M < size m n Q
  grows f u over got = count_less m (λ e. any n (M e)) (λ e. any n (Q e)) still f (k.row f u got) (has_pair k f u got) (no_pair n M f over)

-- one of size m takes in every equation, and the other way round
pub full_size : {m n : ℕ} {edge M : Rel} → Full m n edge M → size m n M ≡ m
full_size {m} {n} {edge} {M} f =
    all_count m (λ e. any n (M e)) (λ e h. given (f.every e h) (λ (u, w). has_pair f.ok e u w))

pub size_full : {m n : ℕ} {edge M : Rel} → Pairing m n edge M → size m n M ≡ m → Full m n edge M
size_full {m} {n} {edge} {M} k e = record {
  ok = k;
  every = λ i h. given (any_where {n = n} (M i) (count_all m (λ e. any n (M e)) e i h)) (λ (u, b, w). (u, w));
}

-- so a full pairing is a largest one
pub full_largest : {m n : ℕ} {edge M : Rel} → Full m n edge M → Largest m n edge M
full_largest {m} {n} f = record { ok = f.ok; top = λ Q k. rw (full_size f) (size_rows m n Q) }

-- with as many unknowns as equations it takes in every unknown too
pub full_turned : {m n : ℕ} {edge M : Rel} → m ≡ n → Full m n edge M → Full n m (turn edge) (turn M)
full_turned same f = size_full (pairing_turned f.ok) (size_turned f.ok ∙ full_size f ∙ same)

pub largest_turned : {m n : ℕ} {edge M : Rel} → Largest m n edge M → Largest n m (turn edge) (turn M)
largest_turned {m} {n} {edge} {M} l = record {
  ok = pairing_turned l.ok;
  top = λ Q k. let a = l.top (turn Q) (pairing_turned k) in let b = size_turned k in let c = size_turned l.ok in omega arith;
}

-- all largest pairings have one size: there is one rank
pub largest_size : {m n : ℕ} {edge M Q : Rel} → Largest m n edge M → Largest m n edge Q → size m n M ≡ size m n Q
largest_size {M = M} {Q = Q} a b = le_antisymm (b.top M a.ok) (a.top Q b.ok)

pub rank_one : {m n k k' : ℕ} {edge : Rel} → Rank m n edge k → Rank m n edge k' → k ≡ k'
rank_one a b = sym a.counts ∙ largest_size a.largest b.largest ∙ b.counts

-- a pairing as large as a largest one is a largest one
pub as_large : {m n : ℕ} {edge M Q : Rel} → Largest m n edge M → Pairing m n edge Q → size m n M ≤ size m n Q → Largest m n edge Q
as_large l k h = record { ok = k; top = λ P p. let a = l.top P p in omega arith }
