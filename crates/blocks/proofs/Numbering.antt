-- Numbering the blocks one by one. While an equation does not stand some block is ready: what a block is kept by reaches strictly less.
-- Giving the lowest ready block the next number keeps what the plain statement says.
use mathlib.Core.Path.{◌≡◌, refl, sym, ◌∙◌}
use mathlib.Core.Bool.{Bool, true, false, not, ◌&&◌}
use mathlib.Core.List.{List}
use Prim.Native.Nat.{ℕ, zero, suc, ◌+◌, ◌<◌, ◌≤◌}
use native.Mathlib.Numerals.{add-one}
use native.Mathlib.Omega.{arith}
use lib.Dec.{ltb, leb, eqb}
use Rattle.std.specs.declared.option.Option.TheVariants.{None, Some}
use borrow.Author.Tests.{eqb-true, eq-eqb, ne_eqb}
use Rattle.laws.specs.Count.{bit, count, any}
use Rattle.laws.specs.Tab.{tab, number_at}
use Rattle.laws.proofs.Tests.{test, tests, given, clash, not_true, and_left, and_right, and_both}
use Rattle.laws.proofs.Search.{any_where, any_none}
use Rattle.laws.proofs.Counts.{count_within, count_less}
use Rattle.laws.proofs.Sum.{bit_true, bit_false}
use Rattle.laws.proofs.Tab.{get_or_tab}
use Rattle.table.specs.Model.{limit}
use Rattle.pairing.specs.Pairing.{Rel}
use Rattle.blocks.specs.Blocks.{Shares}
use Rattle.blocks.specs.Blocks.Reaches.{here, step}
use Rattle.blocks.specs.Handed.{Within, Closed}
use Rattle.blocks.specs.Steps.{ways, both, keeps_at, waits_at, Lowest, renumbered, Numbering, AllNumbered}
use Rattle.blocks.proofs.Ways.{onward, ways_closed, ways_sound, ways_complete}

not_so : (b : Bool) → not b ≡ true → b ≡ false
not_so b h = test b (λ t. clash {b = not b} h (rw t refl)) (λ f. f)

so_not : {b : Bool} → b ≡ false → not b ≡ true
so_not f = rw f refl

module _ {m : ℕ} {T : Rel} (C : Closed m T) where
  both_left : (e f : ℕ) → both T e f ≡ true → T e f ≡ true
  both_left e f t = and_left (T e f) (T f e) t

  both_right : (e f : ℕ) → both T e f ≡ true → T f e ≡ true
  both_right e f t = and_right (T e f) (T f e) t

  pub both_self : (e : ℕ) → e < m → both T e e ≡ true
  both_self e h = and_both (C.self e h) (C.self e h)

  both_sym : (e f : ℕ) → both T e f ≡ true → both T f e ≡ true
  both_sym e f t = and_both (both_right e f t) (both_left e f t)

  both_trans : (e f g : ℕ) → both T e f ≡ true → both T f g ≡ true → both T e g ≡ true
  both_trans e f g s t =
      and_both (C.onward e f g (both_left e f s) (both_left f g t)) (C.onward g f e (both_right f g t) (both_right e f s))

  -- what keeps e reaches strictly less than e does
  keeps_less : (e g : ℕ) → e < m → T e g ≡ true → T g e ≡ false → count m (T g) < count m (T e)
  keeps_less e g h t f = count_less m (T g) (T e) (λ i l r. C.onward e g i t r) e h (C.self e h) f

  module _ (num : ℕ → ℕ) where
    -- what waiting says
    record Waits (e : ℕ) : Type 0 where
      out : num e ≡ 0
      rest : (g : ℕ) → T e g ≡ true → T g e ≡ false → 1 ≤ num g

    waiting : (e : ℕ) → waits_at m T num e ≡ true → Waits e
    waiting e t =
        let k = not_so (any m (keeps_at T num e)) (and_right (eqb (num e) 0) (not (any m (keeps_at T num e))) t) in record {
          out = eqb-true (num e) 0 (and_left (eqb (num e) 0) (not (any m (keeps_at T num e))) t);
          rest = λ g r f. test (eqb (num g) 0)
              (λ z. clash (and_both r (and_both (so_not f) z)) (any_none (keeps_at T num e) k g (C.within.col e g r)))
              (λ z. omega (arith, tests));
        }

    -- what keeps e
    record Keeper (e : ℕ) : Type 0 where
      by : ℕ
      equation : by < m
      reached : T e by ≡ true
      apart : T by e ≡ false
      out : num by ≡ 0

    keeper : (e : ℕ) → any m (keeps_at T num e) ≡ true → Keeper e
    keeper e t = given (any_where {n = m} (keeps_at T num e) t) (λ (g, l, k).
        let r = and_right (T e g) (not (T g e) && eqb (num g) 0) k in record {
          by = g;
          equation = l;
          reached = and_left (T e g) (not (T g e) && eqb (num g) 0) k;
          apart = not_so (T g e) (and_left (not (T g e)) (eqb (num g) 0) r);
          out = eqb-true (num g) 0 (and_right (not (T g e)) (eqb (num g) 0) r);
        })

    does_wait : (e : ℕ) → Waits e → waits_at m T num e ≡ true
    does_wait e w = and_both (eq-eqb (num e) 0 w.out) (test (any m (keeps_at T num e))
        (λ t. let k = keeper e t in let z = k.out in let r = w.rest k.by k.reached k.apart in absurd (omega arith))
        (λ f. so_not f))

    some_waits : (n e : ℕ) → count m (T e) < n → e < m → num e ≡ 0 → (x : ℕ) × (x < m) × (waits_at m T num x ≡ true)
    some_waits zero e l h z = absurd (omega arith)
    some_waits (suc n) e l h z = test (any m (keeps_at T num e))
        (λ t. let k = keeper e t in
        let c = keeps_less e k.by h k.reached k.apart in
        some_waits n k.by (omega arith) k.equation k.out)
        (λ f. (e, h, and_both (eq-eqb (num e) 0 z) (so_not f)))

    -- where nobody waits everybody stands
    pub all_stand : ((e : ℕ) → e < m → waits_at m T num e ≡ false) → (e : ℕ) → e < m → 1 ≤ num e
    all_stand none e h = test (eqb (num e) 0)
        (λ t. given (some_waits (suc (count m (T e))) e (omega arith) h (eqb-true (num e) 0 t)) (λ (x, l, w). clash w (none x l)))
        (λ t. omega (arith, tests))

-- While something does not stand some block is ready: S says what stands.
pub some_ready : {m : ℕ} {R : Rel} → Within m R → (S : ℕ → Bool) (e : ℕ) → e < m → S e ≡ false
    → (x : ℕ) × (x < m) × (S x ≡ false) × ((f g : ℕ) → Shares R x f → R f g ≡ true → (Shares R x g → ⊥) → S g ≡ true)
some_ready {m} {R} W S e h z =
    given (some_waits C num (suc (count m (ways m R m e))) e (omega arith) h (bit_false z)) (λ (x, l, w).
    let a = waiting C num x w in
    (x, l, test (S x) (λ t. let u = bit_true t in let v = a.out in absurd (omega arith)) (λ f. f), λ f g s t d. rest x l a f g s t d))
  where
    C : Closed m (ways m R m)
    C = ways_closed m R W

    num : ℕ → ℕ
    num e = bit (S e)

    rest : (x : ℕ) → x < m → Waits C num x → (f g : ℕ) → Shares R x f → R f g ≡ true → (Shares R x g → ⊥) → S g ≡ true
    rest x l a f g s t d =
        let r = onward s.there (step g t here) in
        let n = a.rest g (ways_complete m R W l r) (not_true (λ b. d (record { there = r; back = ways_sound m R W m g x b }))) in
        test (S g) (λ b. b) (λ b. let u = bit_false b in absurd (omega arith))

-- how many have no number
abbrev pub unplaced : ℕ → (ℕ → ℕ) → ℕ
unplaced m num = count m (λ f. eqb (num f) 0)

-- nobody has a number at the start
pub numbering_start : {m : ℕ} {T : Rel} {num : ℕ → ℕ} → ((e : ℕ) → e < m → num e ≡ 0) → Numbering m T num 0
numbering_start none = record {
  most = λ e h. let z = none e h in omega arith;
  used = λ v a b. absurd (omega arith);
  same = λ e f h l a q. let z = none e h in absurd (omega arith);
  shared = λ e f h l t. none e h ∙ sym (none f l);
  ready = λ e g h a t. let z = none e h in absurd (omega arith);
  lowest = λ e f h l a b r. let z = none e h in absurd (omega arith);
}

-- the lowest that waits gets the next number, and with it its whole block
module _ {m : ℕ} {T : Rel} (C : Closed m T) {num : ℕ → ℕ} {k : ℕ} (N : Numbering m T num k) {e : ℕ} (L : Lowest m T num (Some e))
    {next : ℕ → ℕ} (is : (f : ℕ) → f < m → next f ≡ renumbered T num e (suc k) f) where
  h : e < m
  h = L.0

  w : Waits C num e
  w = waiting C num e L.1

  -- a member of the block: it did not stand, and has the new number
  inside : (f : ℕ) → f < m → both T e f ≡ true → (num f ≡ 0) × (next f ≡ suc k)
  inside f l t = (sym (N.shared e f h l t) ∙ w.out, is f l ∙ (rw t refl))

  outside : (f : ℕ) → f < m → both T e f ≡ false → next f ≡ num f
  outside f l t = is f l ∙ (rw t refl)

  -- whoever had a number keeps it
  kept : (f : ℕ) → f < m → 1 ≤ num f → next f ≡ num f
  kept f l a = test (both T e f) (λ t. let z = (inside f l t).0 in absurd (omega arith)) (λ t. outside f l t)

  -- whoever has an old number had it before
  old : (f : ℕ) → f < m → next f ≤ k → next f ≡ num f
  old f l a = test (both T e f) (λ t. let z = (inside f l t).1 in absurd (omega arith)) (λ t. outside f l t)

  -- whoever has the new number is a member
  new : (f : ℕ) → f < m → next f ≡ suc k → both T e f ≡ true
  new f l a = test (both T e f) (λ t. t) (λ t. let z = outside f l t in let y = N.most f l in absurd (omega arith))

  most_next : (f : ℕ) → f < m → next f ≤ suc k
  most_next f l = test (both T e f) (λ t. let z = (inside f l t).1 in omega arith) (λ t. let z = outside f l t in let y = N.most f l in omega arith)

  same_next : (f g : ℕ) → f < m → g < m → 1 ≤ next f → next f ≡ next g → both T f g ≡ true
  same_next f g l u a q = test (eqb (next f) (suc k))
      (λ t. let z = eqb-true (next f) (suc k) t in both_trans C f e g (both_sym C e f (new f l z)) (new g u (sym q ∙ z)))
      (λ t. let z = most_next f l in
      let x = old f l (omega (arith, tests)) in
      let y = old g u (omega (arith, tests)) in N.same f g l u (omega arith) (omega arith))

  shared_next : (f g : ℕ) → f < m → g < m → both T f g ≡ true → next f ≡ next g
  shared_next f g l u t = test (both T e f)
      (λ s. (inside f l s).1 ∙ sym (inside g u (both_trans C e f g s t)).1)
      (λ s. outside f l s ∙ N.shared f g l u t
      ∙ sym (outside g u (not_true (λ r. clash (both_trans C e g f r (both_sym C f g t)) s))))

  ready_next : (f g : ℕ) → f < m → 1 ≤ next f → T f g ≡ true → (1 ≤ next g) × (next g ≤ next f)
  ready_next f g l a t = test (both T e f) (λ s. test (both T e g)
      (λ r. let x = (inside f l s).1 in let y = (inside g u r).1 in (omega arith, omega arith))
      (λ r. let x = (inside f l s).1 in
      let y = outside g u r in
      let z = w.rest g (C.onward e f g (both_left C e f s) t) (not_true (λ b. clash (and_both (C.onward e f g (both_left C e f s) t) b) r)) in
      let v = N.most g u in (omega arith, omega arith)))
      (λ s. let x = outside f l s in let r = N.ready f g l (omega arith) t in let y = kept g u r.0 in (omega arith, omega arith))
    where
      u : g < m
      u = C.within.col f g t

  lowest_next : (f g : ℕ) → f < m → g < m → 1 ≤ next f → (1 ≤ next g → next f ≤ next g)
      → ((x : ℕ) → T g x ≡ true → T x g ≡ false → (1 ≤ next x) × (next x < next f))
      → (x : ℕ) × (x < m) × (next x ≡ next f) × (x ≤ g)
  lowest_next f g l u a b r = test (eqb (next f) (suc k))
      (λ t. let z = eqb-true (next f) (suc k) t in
      (e, h, (inside e h (both_self C e h)).1 ∙ sym z, below z))
      (λ t. let z = most_next f l in
      let y = old f l (omega (arith, tests)) in
      given (N.lowest f g l u (omega arith) (λ c. let v = kept g u c in let x = b (omega arith) in omega arith)
      (λ x s d. let n = r x s d in let v = old x (C.within.col g x s) (omega arith) in (omega arith, omega arith)))
      (λ (x, o, q, i). (x, o, kept x o (omega arith) ∙ q ∙ sym y, i)))
    where
      -- the new block is the lowest of those that waited
      below : next f ≡ suc k → e ≤ g
      below z = test (ltb g e)
          (λ t. clash (does_wait C num g (record { out = out; rest = rest })) (L.2 g (omega (arith, tests))))
          (λ t. omega (arith, tests))
        where
          rest : (x : ℕ) → T g x ≡ true → T x g ≡ false → 1 ≤ num x
          rest x s d = let n = r x s d in let v = old x (C.within.col g x s) (omega arith) in omega arith

          out : num g ≡ 0
          out = test (both T e g) (λ t. (inside g u t).0) (λ t.
              let o = outside g u t in let n = N.most g u in
              test (eqb (num g) 0) (λ c. eqb-true (num g) 0 c) (λ c. let d = b (omega (arith, tests)) in absurd (omega arith)))

  pub numbering_step : Numbering m T next (suc k)
  numbering_step = record {
    most = most_next;
    used = λ v a b. test (leb v k)
        (λ t. given (N.used v a (omega (arith, tests))) (λ (f, l, q). (f, l, kept f l (omega arith) ∙ q)))
        (λ t. (e, h, (inside e h (both_self C e h)).1 ∙ (omega (arith, tests))));
    same = same_next;
    shared = shared_next;
    ready = ready_next;
    lowest = lowest_next;
  }

  -- fewer are left without a number
  pub numbering_falls : unplaced m next < unplaced m num
  numbering_falls = count_less m (λ f. eqb (next f) 0) (λ f. eqb (num f) 0)
      (λ f l t. let z = eqb-true (next f) 0 t in let y = old f l (omega arith) in eq-eqb (num f) 0 (omega arith))
      e h (eq-eqb (num e) 0 w.out) (let y = (inside e h (both_self C e h)).1 in ne_eqb (next e) 0 (λ z. omega arith))

-- the loop: k blocks stand
pub record Counting (m : ℕ) (T : Rel) (num : ℕ → ℕ) (k : ℕ) : Type 0 where
  pub numbering : Numbering m T num k
  pub room : k + unplaced m num ≤ m

pub counting_start : {m : ℕ} {T : Rel} {num : ℕ → ℕ} → ((f : ℕ) → num f ≡ 0) → Counting m T num 0
counting_start {m} {num = num} none =
    let b = count_within m (λ f. eqb (num f) 0) in record { numbering = numbering_start (λ f _. none f); room = omega arith }

module _ {m : ℕ} {T : Rel} (C : Closed m T) (few : m ≤ limit) {num : ℕ → ℕ} {k e : ℕ} (S : Counting m T num k) (L : Lowest m T num (Some e))
    {l : List ℕ} (is : l ≡ tab limit (renumbered T num e (k + 1))) where
  each : (f : ℕ) → f < m → number_at l f ≡ renumbered T num e (suc k) f
  each f b = rw (is, add-one k) (get_or_tab limit (renumbered T num e (suc k)) f 0 (omega arith))

  pub counting_falls : unplaced m (number_at l) < unplaced m num
  counting_falls = numbering_falls C S.numbering L each

  pub counting_step : Counting m T (number_at l) (k + 1)
  counting_step =
      let r = S.room in
      let d = counting_falls in
      record { numbering = rw (add-one k) (numbering_step C S.numbering L each); room = omega arith }

pub counting_end : {m : ℕ} {T : Rel} {num : ℕ → ℕ} {k : ℕ} → Closed m T → Counting m T num k → Lowest m T num None → AllNumbered m T num k
counting_end {num = num} C S none = record { numbering = S.numbering; all = all_stand C num none }
