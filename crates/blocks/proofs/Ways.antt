-- Reach, and how it is found: with equations below k let through, one more k at a time.
use mathlib.Core.Path.{◌≡◌, refl}
use mathlib.Core.Bool.{true, ◌&&◌}
use Prim.Native.Nat.{ℕ, zero, suc, ◌<◌}
use native.Mathlib.Omega.{arith}
use lib.Dec.{ltb, eqb}
use borrow.Author.Tests.{eqb-true, eq-eqb, lt-ltb, ltb-true}
use Rattle.laws.proofs.Tests.{test, tests, either, and_left, and_right, and_both, or_cases, or_left, or_right}
use Rattle.pairing.specs.Pairing.{Rel}
use Rattle.blocks.specs.Blocks.{Reaches, Shares}
use Rattle.blocks.specs.Blocks.Reaches.{here, step}
use Rattle.blocks.specs.Handed.{Within, Closed}
use Rattle.blocks.specs.Steps.{at_once, through_at, ways}

-- Reach is transitive, and an equation shares its own block.
pub onward : {R : Rel} {e f g : ℕ} → Reaches R e f → Reaches R f g → Reaches R e g
onward here s = s
onward (step x t r) s = step x t (onward r s)

pub shares_self : {R : Rel} {e : ℕ} → Shares R e e
shares_self = record { there = here; back = here }

-- what a step of `through` gives, and what gives it
through_cases : {A : Type 0} (k : ℕ) (T : Rel) (e g : ℕ) → through_at k T e g ≡ true
    → (T e g ≡ true → A) → (T e k ≡ true → T k g ≡ true → A) → A
through_cases k T e g t a b =
    either (or_cases (T e g) (T e k && T k g) t) a (λ w. b (and_left (T e k) (T k g) w) (and_right (T e k) (T k g) w))

through_old : (k : ℕ) (T : Rel) (e g : ℕ) → T e g ≡ true → through_at k T e g ≡ true
through_old k T e g t = or_left (T e k && T k g) t

through_new : (k : ℕ) (T : Rel) (e g : ℕ) → T e k ≡ true → T k g ≡ true → through_at k T e g ≡ true
through_new k T e g s t = or_right (T e g) (and_both s t)

module _ (m : ℕ) (R : Rel) (W : Within m R) where
  at_once_cases : {A : Type 0} (e g : ℕ) → at_once m R e g ≡ true → (R e g ≡ true → A) → (e < m → e ≡ g → A) → A
  at_once_cases e g t a b = either (or_cases (R e g) (ltb e m && eqb e g) t) a
      (λ w. b (ltb-true e m (and_left (ltb e m) (eqb e g) w)) (eqb-true e g (and_right (ltb e m) (eqb e g) w)))

  -- what is found is reached
  pub ways_sound : (k e g : ℕ) → ways m R k e g ≡ true → Reaches R e g
  ways_sound zero e g t = at_once_cases e g t (λ r. step g r here) (λ h q. rw (← q) here)
  ways_sound (suc k) e g t =
      through_cases k (ways m R k) e g t (λ a. ways_sound k e g a) (λ a b. onward (ways_sound k e k a) (ways_sound k k g b))

  ways_within : (k : ℕ) → Within m (ways m R k)
  ways_within zero = record {
    row = λ e g t. at_once_cases e g t (λ r. W.row e g r) (λ h q. h);
    col = λ e g t. at_once_cases e g t (λ r. W.col e g r) (λ h q. omega arith);
  }
  ways_within (suc k) =
      let w = ways_within k in record {
        row = λ e g t. through_cases k (ways m R k) e g t (λ a. w.row e g a) (λ a b. w.row e k a);
        col = λ e g t. through_cases k (ways m R k) e g t (λ a. w.col e g a) (λ a b. w.col k g b);
      }

  ways_at_once : (k e g : ℕ) → at_once m R e g ≡ true → ways m R k e g ≡ true
  ways_at_once zero e g t = t
  ways_at_once (suc k) e g t = through_old k (ways m R k) e g (ways_at_once k e g t)

  -- two ways that meet below k are one
  ways_meet : (k e f g : ℕ) → f < k → ways m R k e f ≡ true → ways m R k f g ≡ true → ways m R k e g ≡ true
  ways_meet zero e f g h s t = absurd (omega arith)
  ways_meet (suc k) e f g h s t = test (eqb f k)
      (λ q. let z : f ≡ k = eqb-true f k q in at_k (rw z at s) (rw z at t))
      (λ q. below (λ x y a b. ways_meet k x f y (omega (arith, tests)) a b))
    where
      T : Rel
      T = ways m R k

      at_k : through_at k T e k ≡ true → through_at k T k g ≡ true → through_at k T e g ≡ true
      at_k s t = through_new k T e g (through_cases k T e k s (λ a. a) (λ a b. a)) (through_cases k T k g t (λ a. a) (λ a b. b))

      below : ((x y : ℕ) → T x f ≡ true → T f y ≡ true → T x y ≡ true) → through_at k T e g ≡ true
      below meet = through_cases k T e f s
          (λ a. through_cases k T f g t (λ c. through_old k T e g (meet e g a c)) (λ c d. through_new k T e g (meet e k a c) d))
          (λ a b. through_cases k T f g t (λ c. through_new k T e g a (meet k g b c)) (λ c d. through_new k T e g a d))

  pub ways_closed : Closed m (ways m R m)
  ways_closed = record {
    within = ways_within m;
    self = λ e h. ways_at_once m e e (or_right (R e e) (and_both (lt-ltb e m h) (eq-eqb e e refl)));
    onward = λ e f g s t. ways_meet m e f g ((ways_within m).col e f s) s t;
  }

  pub ways_complete : {e g : ℕ} → e < m → Reaches R e g → ways m R m e g ≡ true
  ways_complete {e} h here = ways_closed.self e h
  ways_complete {e} {g} h (step f t r) =
      ways_meet m e f g (W.col e f t) (ways_at_once m e f (or_left (ltb e m && eqb e f) t)) (ways_complete (W.col e f t) r)
