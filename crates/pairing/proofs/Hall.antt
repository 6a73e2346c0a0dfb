-- Why a search that finds nothing shows that no full pairing keeps what the equations asked before it hold (for the first full pairing).
-- Let C be the newly asked. A choice q of partners that gives the others asked what they hold sends each g in C to the holder of q g. That holder is in C:
-- had one asked before it, q would give one unknown to both. So C goes one to one into C, and misses the asker, who holds nothing.
use mathlib.Core.Path.{◌≡◌}
use mathlib.Core.Bool.{Bool, true, false, not, ◌&&◌}
use mathlib.Core.List.{List}
use mathlib.Core.Logic.{◌⊎◌, inl, inr}
use Prim.Native.Nat.{ℕ, ◌<◌}
use native.Mathlib.Omega.{arith}
use Rattle.laws.specs.Marks.{marked}
use Rattle.laws.proofs.Tests.{test, either, given, clash, and_left, and_right, and_both}
use Rattle.laws.proofs.Inject.{count_misses}
use Rattle.std.specs.declared.option.Option.{Option}
use Rattle.table.specs.declared.number.Equation.{Equation}
use Rattle.pairing.specs.Pairing.{Rel, Pairing, LeftOver}
use Rattle.pairing.specs.First.{Partners}
use Rattle.pairing.specs.Holders.{held, Reach, start, step, Asking, Nothing}

-- C closed: each unknown of a member is held by a member, or by one of D
pub record Stuck (m n : ℕ) (edge M : Rel) (C D : ℕ → Bool) (f : ℕ) : Type 0 where
  pub ok : Pairing m n edge M
  pub within : (g : ℕ) → C g ≡ true → g < m
  pub apart : (g : ℕ) → C g ≡ true → D g ≡ true → ⊥
  pub asker : C f ≡ true
  pub free : LeftOver M f
  pub closed : (g v : ℕ) → C g ≡ true → v < n → edge g v ≡ true → (k : ℕ) × (M k v ≡ true) × ((C k ≡ true) ⊎ (D k ≡ true))

module _ {m n : ℕ} {edge M : Rel} {C D : ℕ → Bool} {f : ℕ} (s : Stuck m n edge M C D f) (q : ℕ → ℕ) (k : Partners m n edge q)
    (kept : (i : ℕ) → D i ≡ true → M i (q i) ≡ true) where
  -- the holder of q g is in C
  holder_in : (g : ℕ) → C g ≡ true → (j : ℕ) × (j < m) × ((C g ≡ true) × (M j (q g) ≡ true)) × (C j ≡ true)
  holder_in g c = let h = s.within g c in given (s.closed g (q g) c (k.col g h) (k.fits g h)) (λ (j, w, r). (
    j,
    s.ok.row j (q g) w,
    (c, w),
    either r (λ i. i)
        (λ d. absurd (s.apart g c (rw (k.own j g (s.ok.row j (q g) w) h (s.ok.one_u j (q j) (q g) (kept j d) w)) at d))),
  ))

  pub no_way : ⊥
  no_way =
      let less = count_misses m m C C (λ g j. (C g ≡ true) × (M j (q g) ≡ true))
      (λ g g' j (c, w) (c', w'). k.own g g' (s.within g c) (s.within g' c') (s.ok.one_u j (q g) (q g') w w'))
      (λ g h c. holder_in g c) f (s.within f s.asker) s.asker (λ g h c r. s.free (q g) r.1) in
      omega arith

pub reach_within : {m n : ℕ} {edge M : Rel} {f e : ℕ} → Pairing m n edge M → f < m → Reach edge M f e → e < m
reach_within k h start = h
reach_within k h (step {e = e} u w fits holds) = k.row e u holds

-- the newly asked
newly : List Bool → List Bool → ℕ → Bool
newly before after g = marked after g && not (marked before g)

newly_is : (before after : List Bool) (g : ℕ) → newly before after g ≡ true → (marked after g ≡ true) × (marked before g ≡ false)
unfolding newly
newly_is before after g t = (
  and_left (marked after g) (not (marked before g)) t,
  test (marked before g) (λ b. clash (and_right (marked after g) (not (marked before g)) t) (rw b)) (λ b. b),
)

is_newly : (before after : List Bool) (g : ℕ) → marked after g ≡ true → marked before g ≡ false → newly before after g ≡ true
unfolding newly
is_newly before after g t f = and_both t (rw f)

-- a search that found nothing leaves no full pairing in which those asked before it have what they hold
module _ {m n : ℕ} {edge : Rel} {f : ℕ} {before after : List Bool} {h : List (Option Equation)}
    (a : Asking m n edge f before h) (r : Nothing n edge f before after h) where
  stuck : Stuck m n edge (held h) (newly before after) (marked before) f
  stuck = record {
    ok = a.ok;
    within = λ g c. given (newly_is before after g c) (λ (t, b). either (r.reached g t) (λ x. clash x b) (λ w. reach_within a.ok a.asker w));
    apart = λ g c d. clash d (newly_is before after g c).1;
    asker = is_newly before after f r.self a.fresh;
    free = a.free;
    closed = λ g v c i t. given (newly_is before after g c) (λ (x, b). given (r.closed g v x (λ y. clash y b) i t) (λ (j, y, w).
        (j, w, test (marked before j) (λ z. inr z) (λ z. inl (is_newly before after j y z)))));
  }

  pub refuted : (q : ℕ → ℕ) → Partners m n edge q → ((i : ℕ) → marked before i ≡ true → held h i (q i) ≡ true) → ⊥
  refuted q k kept = no_way stuck q k kept
