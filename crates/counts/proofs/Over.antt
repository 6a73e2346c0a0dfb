-- What was said over one relation, said over another that holds wherever it is needed.
use mathlib.Core.Path.{◌≡◌}
use mathlib.Core.Bool.{true}
use Prim.Native.Nat.{ℕ, ◌≤◌}
use native.Mathlib.Omega.{arith}
use Rattle.pairing.specs.Pairing.{Rel, Pairing, Full}
use Rattle.pairing.specs.Holders.{Reach, start, step}

pub over_pairs : {k m n : ℕ} {A B M : Rel} → m ≤ k → Pairing m n A M → ((e u : ℕ) → M e u ≡ true → B e u ≡ true) → Pairing k n B M
over_pairs more ok fits = record {
  row = λ e u p. let r = ok.row e u p in omega arith;
  col = ok.col;
  fits = fits;
  one_u = ok.one_u;
  one_e = ok.one_e;
}

pub over_full : {m n : ℕ} {A B M : Rel} → Full m n A M → ((e u : ℕ) → M e u ≡ true → B e u ≡ true) → Full m n B M
over_full full fits = record { ok = over_pairs (omega arith) full.ok fits; every = full.every }

pub over_reach : {A B M : Rel} {f e : ℕ} → ((a u : ℕ) → A a u ≡ true → B a u ≡ true) → Reach A M f e → Reach B M f e
over_reach to start = start
over_reach to (step {a} u r l p) = step u (over_reach to r) (to a u l) p
