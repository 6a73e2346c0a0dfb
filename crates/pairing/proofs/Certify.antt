-- A largest pairing has its certificate: X is what is reached from the equations that it leaves over. Every unknown of a member is held (Along), and its
-- holder is reached too.
use mathlib.Core.Path.{◌≡◌}
use mathlib.Core.Bool.{Bool, true, not, ◌&&◌}
use mathlib.Core.List.{List}
use Prim.Native.Nat.{ℕ, ◌<◌}
use Rattle.laws.specs.Count.{any}
use Rattle.laws.specs.Marks.{marked}
use Rattle.laws.proofs.Tests.{given, clash, not_false, and_left, and_right, and_both}
use Rattle.laws.proofs.Search.{any_here, any_where}
use Rattle.laws.proofs.Closure.{closure, closure_only, closure_start, closure_within, closure_closed}
use Rattle.pairing.specs.Pairing.{Rel, Pairing, Largest, LeftOver}
use Rattle.pairing.specs.Holders.{Reach, start, step}
use Rattle.pairing.specs.Certificate.{Certificate}
use Rattle.pairing.proofs.Sizes.{has_pair}
use Rattle.pairing.proofs.Along.{reached_held}

-- left over equations, and who is asked next
abbrev free : ℕ → Rel → ℕ → Bool
free n M e = not (any n (M e))

abbrev asks : ℕ → Rel → Rel → Rel
asks n edge M a e = any n (λ u. edge a u && M e u)

-- who is reached from those left over
abbrev pub overs : ℕ → ℕ → Rel → Rel → List Bool
overs m n edge M = closure m (asks n edge M) (free n M)

module _ {m n : ℕ} {edge M : Rel} (k : Pairing m n edge M) where
  -- someone left over reaches e
  abbrev From : ℕ → Type 0
  From e = (f : ℕ) × (marked (overs m n edge M) f ≡ true) × LeftOver M f × Reach edge M f e

  from : (e : ℕ) → marked (overs m n edge M) e ≡ true → From e
  from = closure_only m (asks n edge M) (free n M) From
      (λ e h f. (e, closure_start m (asks n edge M) (free n M) e h f, λ u w. clash f (rw (has_pair k e u w)), start))
      (λ a e h b (f, x, o, r) s. given (any_where {n = n} (λ u. edge a u && M e u) s) (λ (u, c, w).
      (f, x, o, step u r (and_left (edge a u) (M e u) w) (and_right (edge a u) (M e u) w))))

  -- where each unknown of those that are reached is held
  pub certified : ((e u : ℕ) → e < m → marked (overs m n edge M) e ≡ true → u < n → edge e u ≡ true → any m (λ g. M g u) ≡ true)
      → Certificate m n edge M (marked (overs m n edge M))
  certified held = record {
    ok = k;
    within = inside;
    out = λ e h x. given (any_where {n = n} (M e) (not_false (λ a. clash (closure_start m (asks n edge M) (free n M) e h (rw a)) x))) (λ (u, b, w). (u, w));
    inn = λ e u x h o. given (any_where {n = m} (λ g. M g u) (held e u (inside e x) x h o)) (λ (g, c, w).
        (g, closure_closed m (asks n edge M) (free n M) e g (inside e x) c x (any_here (λ v. edge e v && M g v) u h (and_both o w)), w));
    reached = from;
  }
    where
      inside : (e : ℕ) → marked (overs m n edge M) e ≡ true → e < m
      inside = closure_within m (asks n edge M) (free n M)

pub certify : {m n : ℕ} {edge M : Rel} → Largest m n edge M → Certificate m n edge M (marked (overs m n edge M))
certify {m} {n} {edge} {M} l = certified l.ok (λ e u _ x b o. given (from l.ok e x) (λ (f, y, over, r).
    reached_held l (closure_within m (asks n edge M) (free n M) f y) over r u b o))
