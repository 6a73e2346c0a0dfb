-- Lists of the numbers below n that have a property: there is one only, and the members of a test are it.
-- Two such lists agree place by place: were the number at place i of one found later in the other, the other would have a lower one at i that the first lacks.
use mathlib.Core.Path.{◌≡◌, refl, sym, ◌∙◌}
use mathlib.Core.Bool.{Bool, true, false}
use mathlib.Core.List.{List, [], ◌∷◌, ◌++◌, append-nil}
use mathlib.Core.Logic.{◌⊎◌, inl, inr, ◌↔◌}
use Prim.Native.Nat.{ℕ, zero, suc, ◌<◌, ◌≤◌}
use native.Mathlib.Omega.{arith}
use native.Mathlib.Nat.{le_antisymm}
use lib.Dec.{eqb, ltb, leb}
use lib.ListN.{length, get_or, length-append, get_or-append}
use lib.Seq.{ext_get_or, get_or-append_seam}
use borrow.Author.Tests.{eqb-true, ltb-true, leb-true, leb-false}
use Rattle.laws.specs.Count.{count}
use Rattle.laws.proofs.Tests.{test, tests, either, given, clash}
use Rattle.pairing.specs.Pairing.{Listed}
use Rattle.pairing.specs.Members.{members}
use Rattle.laws.proofs.Counts.{count_within}

-- places of one list are places of the other, with the same number
module _ {n : ℕ} {P : ℕ → Type 0} {l l' : List ℕ} (a : Listed n P l) (b : Listed n P l') where
  -- where the number at place i of l stands in l': at i, if all before agree
  lands : (i : ℕ) → i < length l → ((k : ℕ) → k < i → get_or l k 0 ≡ get_or l' k 0) → (j : ℕ) → j < length l' → get_or l' j 0 ≡ get_or l i 0 → j ≡ i
  lands i h before j w e = test (ltb j i)
      (λ t. let s = before j (ltb-true j i t) in let up = a.ascends j i (ltb-true j i t) h in absurd (omega arith))
      (λ t. test (ltb i j)
      (λ s. absurd (lower (ltb-true i j s)))
      (λ s. omega (arith, tests)))
    where
      lower : i < j → ⊥
      lower q =
          let up = b.ascends i j q w in
          let o = b.only i (omega arith) in
          given (a.all (get_or l' i 0) o.0 o.1) (λ (k, x, y). test (ltb k i)
          (λ t. let s = before k (ltb-true k i t) in let r = b.ascends k i (ltb-true k i t) (omega arith) in omega arith)
          (λ t. test (eqb k i)
          (λ s. let z : get_or l k 0 ≡ get_or l i 0 = rw (eqb-true k i s) in omega arith)
          (λ s. let r = a.ascends i k (omega (arith, tests)) x in omega arith)))

  places : (d i : ℕ) → i < d → i < length l → (i < length l') × (get_or l i 0 ≡ get_or l' i 0)
  places zero i c h = absurd (omega arith)
  places (suc d) i c h =
      let o = a.only i h in
      given (b.all (get_or l i 0) o.0 o.1) (λ (j, w, e).
      let s = lands i h (λ k q. (places d k (omega arith) (omega arith)).1) j w e in (rw s at w, sym (rw s at e)))

  shorter : length l ≤ length l'
  shorter = test (leb (length l) (length l')) (λ t. omega (arith, tests))
      (λ f. let z = places (suc (length l')) (length l') (omega arith) (omega (arith, tests)) in absurd (omega arith))

pub listed_one : {n : ℕ} {P : ℕ → Type 0} {l l' : List ℕ} → Listed n P l → Listed n P l' → l ≡ l'
listed_one {l = l} {l'} a b = ext_get_or 0 l l' (le_antisymm (shorter a b) (shorter b a)) (λ i h. (places a b (suc i) i (omega arith) h).1)

pub listed_carry : {n : ℕ} {P P' : ℕ → Type 0} {l : List ℕ} → ((i : ℕ) → i < n → P i ↔ P' i) → Listed n P l → Listed n P' l
listed_carry {l = l} same a = record {
  only = λ i h. let o = a.only i h in (o.0, (same (get_or l i 0) o.0).0 o.1);
  all = λ x h w. a.all x h ((same x h).1 w);
  ascends = a.ascends;
}

-- a loop that adds n where it has P: its start and its two steps
pub listed_start : {P : ℕ → Type 0} → Listed 0 P []
listed_start = record { only = λ i h. absurd (omega arith); all = λ x h w. absurd (omega arith); ascends = λ i j a h. absurd (omega arith) }

pub listed_skip : {n : ℕ} {P : ℕ → Type 0} {l : List ℕ} → Listed n P l → (P n → ⊥) → Listed (suc n) P l
listed_skip {n} {P} {l} a not-n = record {
  only = λ i h. let o = a.only i h in (omega arith, o.1);
  all = λ x h w. test (eqb x n) (λ t. absurd (not-n (rw (eqb-true x n t) at w))) (λ t. a.all x (omega (arith, tests)) w);
  ascends = a.ascends;
}

-- a place of a list with one more at its end
end_cases : (l : List ℕ) (x i : ℕ) → i < length (l ++ x ∷ [])
    → ((i < length l) × (get_or (l ++ x ∷ []) i 0 ≡ get_or l i 0)) ⊎ ((i ≡ length l) × (get_or (l ++ x ∷ []) i 0 ≡ x))
end_cases l x i h = test (ltb i (length l))
    (λ t. inl (ltb-true i (length l) t, get_or-append l (x ∷ []) 0 i (ltb-true i (length l) t)))
    (λ t. let e : i ≡ length l = omega (arith, tests, length-append l (x ∷ [])) in inr (e, rw e (get_or-append_seam l x [] 0)))

pub listed_add : {n : ℕ} {P : ℕ → Type 0} {l : List ℕ} → Listed n P l → P n → Listed (suc n) P (l ++ n ∷ [])
listed_add {n} {P} {l} a this = record {
  only = λ i h. either (end_cases l n i h)
      (λ (k, e). let o = a.only i k in (rw e (omega arith), rw e o.1))
      (λ (k, e). (rw e (omega arith), rw e this));
  all = λ x h w. test (eqb x n)
      (λ t. (length l, omega (arith, length-append l (n ∷ [])), get_or-append_seam l n [] 0 ∙ sym (eqb-true x n t)))
      (λ t. given (a.all x (omega (arith, tests)) w) (λ (i, k, e). (i, omega (arith, length-append l (n ∷ [])), get_or-append l (n ∷ []) 0 i k ∙ e)));
  ascends = λ i j q h. either (end_cases l n j h)
      (λ (k, e). rw (e, get_or-append l (n ∷ []) 0 i (omega arith)) (a.ascends i j q k))
      (λ (k, e). rw (e, get_or-append l (n ∷ []) 0 i (omega arith)) (a.only i (omega arith)).0);
}

-- members: none below 0, and one more or not
pub members_zero : (p : ℕ → Bool) → members 0 p ≡ []
unfolding members
members_zero p = refl

pub members_yes : (n : ℕ) (p : ℕ → Bool) → p n ≡ true → members (suc n) p ≡ members n p ++ n ∷ []
unfolding members
members_yes n p t = rw t

pub members_not : (n : ℕ) (p : ℕ → Bool) → p n ≡ false → members (suc n) p ≡ members n p
unfolding members
members_not n p f = rw f (append-nil (members n p))

pub members_are : (n : ℕ) (p : ℕ → Bool) → Listed n (λ i. p i ≡ true) (members n p)
members_are zero p = rw (members_zero p) listed_start
members_are (suc n) p = let r = members_are n p in test (p n)
    (λ t. rw (members_yes n p t) (listed_add r t))
    (λ f. rw (members_not n p f) (listed_skip r (λ t. clash t f)))

pub members_listed : (n : ℕ) (p : ℕ → Bool) {P : ℕ → Type 0} → ((i : ℕ) → i < n → (p i ≡ true) ↔ P i) → Listed n P (members n p)
members_listed n p is = listed_carry is (members_are n p)

pub members_length : (n : ℕ) (p : ℕ → Bool) → length (members n p) ≡ count n p
members_length zero p = rw (members_zero p)
members_length (suc n) p = let r = members_length n p in test (p n)
    (λ t. rw (members_yes n p t, t) (omega (arith, length-append (members n p) (n ∷ []))))
    (λ f. rw (members_not n p f, f) (omega arith))

pub members_within : (n : ℕ) (p : ℕ → Bool) → length (members n p) ≤ n
members_within n p = rw (members_length n p) (count_within n p)

-- a list of members is no longer than the bound: it ascends
listed_climbs : {n : ℕ} {P : ℕ → Type 0} {l : List ℕ} → Listed n P l → (i : ℕ) → i < length l → i ≤ get_or l i 0
listed_climbs k zero h = omega arith
listed_climbs k (suc i) h = let a = listed_climbs k i (omega arith) in let b = k.ascends i (suc i) (omega arith) h in omega arith

pub listed_short : {n : ℕ} {P : ℕ → Type 0} {l : List ℕ} → Listed n P l → length l ≤ n
listed_short {n} {l = l} k = test (leb (length l) n) (λ t. leb-true (length l) n t)
    (λ t. let h = leb-false (length l) n t in let a = listed_climbs k n h in let b = (k.only n h).0 in absurd (omega arith))
