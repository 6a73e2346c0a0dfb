-- What the plain statement of a placing says: there is only one, each block stands after every other block that it needs,
-- and it depends on what is reached alone.
use mathlib.Core.Path.{◌≡◌, refl, sym, ◌∙◌, ap}
use mathlib.Core.Bool.{true}
use mathlib.Core.Logic.{◌⊎◌, inl, inr}
use Prim.Native.Nat.{ℕ, zero, suc, ◌<◌, ◌≤◌}
use native.Mathlib.Omega.{arith}
use lib.Dec.{ltb, leb, eqb}
use borrow.Author.Tests.{eqb-true, eqb-false}
use Rattle.laws.proofs.Tests.{test, tests, either, given}
use Rattle.pairing.specs.Pairing.{Rel}
use Rattle.blocks.specs.Blocks.{Reaches, Shares, Stands, Ready, before, Placed}
use Rattle.blocks.specs.Blocks.Reaches.{here, step}
use Rattle.blocks.specs.Handed.{Within}
use Rattle.blocks.proofs.Ways.{shares_self}

-- the numbers rise along the places
module _ {m : ℕ} {R : Rel} {o b : ℕ → ℕ} {k : ℕ} (P : Placed m R o b k) where
  pub number_rises : (i j : ℕ) → i ≤ j → j < m → b i ≤ b j
  number_rises i zero l h = let z : i ≡ 0 = omega arith in rw z (omega arith)
  number_rises i (suc j) l h = test (leb i j)
      (λ t. let r = number_rises i j (omega (arith, tests)) (omega arith) in let s = P.rises (suc j) h in omega arith)
      (λ t. let z : i ≡ suc j = omega (arith, tests) in rw z (omega arith))

  pub number_before : (i j : ℕ) → i < j → j ≤ m → b i ≤ before b j
  number_before i zero l h = absurd (omega arith)
  number_before i (suc j) l h = number_rises i j (omega arith) (omega arith)

  pub place_before : (i j : ℕ) → i < m → j < m → b i < b j → i < j
  place_before i j h l r = test (ltb i j) (λ t. omega (arith, tests)) (λ t. let z = number_rises j i (omega (arith, tests)) h in absurd (omega arith))

-- two placings that agree below place i
pub record Agree (o b o' b' : ℕ → ℕ) (i : ℕ) : Type 0 where
  pub order : (j : ℕ) → j < i → o j ≡ o' j
  pub block : (j : ℕ) → j < i → b j ≡ b' j

turned : {o b o' b' : ℕ → ℕ} {i : ℕ} → Agree o b o' b' i → Agree o' b' o b i
turned A = record { order = λ j h. sym (A.order j h); block = λ j h. sym (A.block j h) }

same_before : {o b o' b' : ℕ → ℕ} (i : ℕ) → Agree o b o' b' i → before b i ≡ before b' i
same_before zero A = refl
same_before (suc i) A = A.block i (omega arith)

module _ {m : ℕ} {R : Rel} {o b o' b' : ℕ → ℕ} {k k' : ℕ} (P : Placed m R o b k) (Q : Placed m R o' b' k') where
  -- the second has the first's equation of place i there or later
  later : (i : ℕ) → i < m → Agree o b o' b' i → (j : ℕ) × (j < m) × (o' j ≡ o i) × (i ≤ j)
  later i h A = given (Q.every (o i) (P.within i h))
      (λ (j, l, q). (
        j,
        l,
        q,
        test (ltb j i) (λ t. let z = P.once j i l h (A.order j (omega (arith, tests)) ∙ q) in absurd (omega (arith, tests)))
            (λ t. omega (arith, tests)),
      ))

  -- place i goes on with a block in the first: so it does in the second, and the second has no higher equation there
  goes_on : (i : ℕ) → i < m → Agree o b o' b' i → b i ≡ before b i → (b' i ≡ before b' i) × (o' i ≤ o i)
  goes_on zero h A e = let z = P.from_one 0 h in absurd (omega arith)
  goes_on (suc i) h A e = given (later (suc i) h A) (λ (j, l, q, x). with j l q x)
    where
      with : (j : ℕ) → j < m → o' j ≡ o (suc i) → suc i ≤ j → (b' (suc i) ≡ b' i) × (o' (suc i) ≤ o (suc i))
      with j l q x =
          let s : Shares R (o (suc i)) (o i) = P.same (suc i) i h (omega arith) e in
          let s' : Shares R (o' j) (o' i) = rw (q, ← (A.order i (omega arith))) s in
          let z = Q.shared j i l (omega arith) s' in
          let u = number_rises Q (suc i) j x l in
          let v = number_rises Q i (suc i) (omega arith) h in (
            omega arith,
            test (eqb j (suc i)) (λ t. let w : j ≡ suc i = eqb-true j (suc i) t in let y : o' (suc i) ≡ o (suc i) = rw w at q in omega arith)
                (λ t. let y = Q.ascends (suc i) j (omega (arith, tests)) l (omega arith) in omega arith),
          )

  -- place i starts a block in both: the first's equation is no higher than the second's, which is ready too
  starts : (i : ℕ) → i < m → Agree o b o' b' i → b i ≡ suc (before b i) → b' i ≡ b i → o i ≤ o' i
  starts i h A s e =
      given (P.every (o' i) (Q.within i h)) (λ (j, l, q).
      let x = not_earlier j l q in
      given (P.lowest i j h l (number_rises P i j x l) (rw q (ready_too))) (λ (g, u, v, w).
      let y = not_before g u v in
      test (eqb g i) (λ t. let z : g ≡ i = eqb-true g i t in let n : o i ≤ o j = rw z at w in omega arith)
      (λ t. let z = P.ascends i g (omega (arith, tests)) u (sym v) in omega arith)))
    where
      not_earlier : (j : ℕ) → j < m → o j ≡ o' i → i ≤ j
      not_earlier j l q =
          test (ltb j i) (λ t. let z = Q.once j i l h (sym (A.order j (omega (arith, tests))) ∙ q) in absurd (omega (arith, tests)))
          (λ t. omega (arith, tests))

      not_before : (g : ℕ) → g < m → b g ≡ b i → i ≤ g
      not_before g u v = test (ltb g i)
          (λ t. let z = number_before P g i (omega (arith, tests)) (omega arith) in absurd (omega arith))
          (λ t. omega (arith, tests))

      stood : (g : ℕ) → Stands m o' b' (b' i) g → Stands m o b (b i) g
      stood g r =
          let x = place_before Q r.place i r.within h r.earlier in
          let u = A.order r.place x in
          let v = A.block r.place x in
          let w = r.earlier in
          record { place = r.place; within = r.within; is = u ∙ r.is; earlier = omega arith }

      ready_too : Ready m R o b (b i) (o' i)
      ready_too = record { stand = λ f g a c d. stood g ((Q.ready i h).stand f g a c d) }

pub one_placing : {m : ℕ} {R : Rel} {o b o' b' : ℕ → ℕ} {k k' : ℕ} → Placed m R o b k → Placed m R o' b' k' → Agree o b o' b' m
one_placing {m} {R} {o} {b} {o'} {b'} P Q = upto m (omega arith)
  where
    at_next : (i : ℕ) → i < m → Agree o b o' b' i → (o i ≡ o' i) × (b i ≡ b' i)
    at_next i h A =
        let p = same_before i A in
        let r = P.rises i h in let s = P.by_one i h in let r' = Q.rises i h in let s' = Q.by_one i h in
        test (eqb (b i) (before b i))
        (λ t. let c = eqb-true (b i) (before b i) t in
        let x = goes_on P Q i h A c in
        let y = goes_on Q P i h (turned A) x.0 in (omega arith, omega arith))
        (λ t. let c = eqb-false (b i) (before b i) t in
        test (eqb (b' i) (before b' i))
        (λ t'. let x = goes_on Q P i h (turned A) (eqb-true (b' i) (before b' i) t') in absurd (c x.0))
        (λ t'. let c' = eqb-false (b' i) (before b' i) t' in
        let n : b i ≡ suc (before b i) = omega arith in
        let n' : b' i ≡ suc (before b' i) = omega arith in
        let q : b' i ≡ b i = omega arith in
        let x = starts P Q i h A n q in
        let y = starts Q P i h (turned A) n' (sym q) in (omega arith, omega arith)))

    upto : (i : ℕ) → i ≤ m → Agree o b o' b' i
    upto zero h = record { order = λ j l. absurd (omega arith); block = λ j l. absurd (omega arith) }
    upto (suc i) h =
        let A = upto i (omega arith) in
        let n = at_next i (omega arith) A in record {
          order = λ j l. test (eqb j i) (λ t. rw (eqb-true j i t) n.0) (λ t. A.order j (omega (arith, tests)));
          block = λ j l. test (eqb j i) (λ t. rw (eqb-true j i t) n.1) (λ t. A.block j (omega (arith, tests)));
        }

pub one_number : {m : ℕ} {R : Rel} {o b o' b' : ℕ → ℕ} {k k' : ℕ} → Placed m R o b k → Placed m R o' b' k' → k ≡ k'
one_number {m} P Q = P.last ∙ same_before m (one_placing P Q) ∙ sym Q.last

-- each block stands after every other block that it needs
module _ {m : ℕ} {R : Rel} {o b : ℕ → ℕ} {k : ℕ} (P : Placed m R o b k) where
  pub needs_earlier : (i j : ℕ) → i < m → j < m → R (o i) (o j) ≡ true → (b i ≡ b j → ⊥) → b j < b i
  needs_earlier i j h l t ne =
      let s = (P.ready i h).stand (o i) (o j) shares_self t (λ s. ne (P.shared i j h l s)) in
      let z : b s.place ≡ b j = ap b (P.once s.place j s.within l s.is) in
      let e = s.earlier in omega arith

  pub needs_before : (i j : ℕ) → i < m → j < m → R (o i) (o j) ≡ true → (b i ≡ b j → ⊥) → j < i
  needs_before i j h l t ne = place_before P j i l h (needs_earlier i j h l t ne)

-- what relations that reach the same have in common
pub record Alike (R S : Rel) : Type 0 where
  pub there : {e f : ℕ} → Reaches R e f → Reaches S e f
  pub back : {e f : ℕ} → Reaches S e f → Reaches R e f

alike_self : {R : Rel} → Alike R R
alike_self = record { there = λ r. r; back = λ r. r }

pub alike_trans : {R S T : Rel} → Alike R S → Alike S T → Alike R T
alike_trans A B = record { there = λ r. B.there (A.there r); back = λ r. A.back (B.back r) }

shares_there : {R S : Rel} {e f : ℕ} → Alike R S → Shares R e f → Shares S e f
shares_there A s = record { there = A.there s.there; back = A.there s.back }

shares_back : {R S : Rel} {e f : ℕ} → Alike R S → Shares S e f → Shares R e f
shares_back A s = record { there = A.back s.there; back = A.back s.back }

module _ {m : ℕ} {R : Rel} {o b : ℕ → ℕ} {k : ℕ} (P : Placed m R o b k) (W : Within m R) where
  shares? : (e f : ℕ) → e < m → f < m → Shares R e f ⊎ (Shares R e f → ⊥)
  shares? e f h l = given (P.every e h) (λ (i, u, p). given (P.every f l) (λ (j, v, q). test (eqb (b i) (b j))
      (λ t. inl (rw (p, q) at (P.same i j u v (eqb-true (b i) (b j) t))))
      (λ t. inr (λ s. eqb-false (b i) (b j) t (P.shared i j u v (rw (p, q) s))))))

  -- whatever is needed, or reached, by what stands, stands
  stood_next : (n x y : ℕ) → Stands m o b n x → R x y ≡ true → Stands m o b n y
  stood_next n x y s t = given (P.every y (W.col x y t)) (λ (j, l, q).
      let e = s.earlier in
      test (eqb (b s.place) (b j))
      (λ c. record { place = j; within = l; is = q; earlier = omega (arith, tests) })
      (λ c. let z = needs_earlier P s.place j s.within l (rw (s.is, q) t) (eqb-false (b s.place) (b j) c) in
      record { place = j; within = l; is = q; earlier = omega arith }))

  stood_onward : (n : ℕ) {x y : ℕ} → Stands m o b n x → Reaches R x y → Stands m o b n y
  stood_onward n s here = s
  stood_onward n {x} s (step y t r) = stood_onward n (stood_next n x y s t) r

  -- a block is ready as soon as the blocks that it needs at once stand: those that they reach stand then, too
  leaves : {S : Rel} → Within m S → Alike R S → (n e : ℕ) → e < m → Ready m S o b n e
      → {f g : ℕ} → Shares S e f → Reaches S f g → (Shares S e g → ⊥) → Stands m o b n g
  leaves B A n e h r s here d = absurd (d s)
  leaves B A n e h r {f} s (step y t w) d = either (shares? e y h (B.col f y t))
      (λ c. leaves B A n e h r (shares_there A c) w d)
      (λ c. stood_onward n (r.stand f y s t (λ a. c (shares_back A a))) (A.back w))

  -- so a placing depends on what is reached alone
  pub placed_alike : {S : Rel} → Within m S → Alike R S → Placed m S o b k
  placed_alike {S} B A = record {
    within = P.within;
    once = P.once;
    every = P.every;
    from_one = P.from_one;
    rises = P.rises;
    by_one = P.by_one;
    last = P.last;
    same = λ i j h l e. shares_there A (P.same i j h l e);
    shared = λ i j h l s. P.shared i j h l (shares_back A s);
    ascends = P.ascends;
    ready = λ i h. record {
      stand = λ f g s t d. leaves W alike_self (b i) (o i) (P.within i h) (P.ready i h) (shares_back A s) (A.back (step g t here))
          (λ c. d (shares_there A c));
    };
    lowest = λ i j h l n r. P.lowest i j h l n (record {
      stand = λ f g s t d. leaves B A (b i) (o j) (P.within j l) r (shares_there A s) (A.there (step g t here)) (λ c. d (shares_back A c));
    });
  }
