-- What a set X of equations shows of a pairing M: every equation outside X has a pair, every unknown of one in X is held by one in X, and whoever is in X
-- is reached from one in X that M leaves over. Then M is a largest pairing, and the equations of X are those that some largest pairing leaves over.
-- Any pairing maps one to one into M: an equation outside X to itself, one in X to the holder of its unknown; nothing in X is mapped outside, so who is
-- left over outside X makes the pairing smaller. Who is reached is left over after re-pairing along the way (Along).
use mathlib.Core.Path.{◌≡◌, refl, sym, ◌∙◌}
use mathlib.Core.Bool.{Bool, true, false, not, ◌&&◌}
use mathlib.Core.Logic.{◌↔◌}
use Prim.Native.Nat.{ℕ, ◌+◌, ◌-◌, ◌<◌, ◌≤◌}
use native.Mathlib.Omega.{arith}
use native.Mathlib.Nat.{le_antisymm}
use Rattle.laws.specs.Count.{bit, count, any}
use Rattle.laws.proofs.Tests.{test, given, clash, not_false, and_left, and_right, and_both}
use Rattle.laws.proofs.Search.{any_here, any_where}
use Rattle.laws.proofs.Sum.{sum_same, sum_add}
use Rattle.laws.proofs.Counts.{count_not}
use Rattle.laws.proofs.Inject.{count_inject, count_misses}
use Rattle.pairing.specs.Pairing.{Rel, Pairing, size, Largest, LeftOver, Surplus}
use Rattle.pairing.specs.Certificate.{Certificate}
use Rattle.pairing.proofs.Along.{reached_surplus}
use Rattle.pairing.proofs.Sizes.{size_rows, has_pair, no_pair}

-- where the equation e of a pairing Q goes in M
data Goes (M Q : Rel) (X : ℕ → Bool) (e g : ℕ) : Type 0 where
  stays : X g ≡ false → e ≡ g → Goes M Q X e g
  moves : (u : ℕ) → X g ≡ true → Q e u ≡ true → M g u ≡ true → Goes M Q X e g

module _ {m n : ℕ} {edge M : Rel} {X : ℕ → Bool} (c : Certificate m n edge M X) (Q : Rel) (k : Pairing m n edge Q) where
  alone : (e f g : ℕ) → Goes M Q X e g → Goes M Q X f g → e ≡ f
  alone e f g (stays a p) (stays b q) = p ∙ sym q
  alone e f g (stays a p) (moves v b w y) = clash b a
  alone e f g (moves u a w x) (stays b q) = clash a b
  alone e f g (moves u a w x) (moves v b z y) = k.one_e e f u w (rw (c.ok.one_u g v u y x) at z)

  goes : (e : ℕ) → e < m → any n (Q e) ≡ true → (g : ℕ) × (g < m) × Goes M Q X e g × (any n (M g) ≡ true)
  goes e h t = given (any_where {n = n} (Q e) t) (λ (u, b, w). test (X e)
      (λ x. given (c.inn e u x b (k.fits e u w)) (λ (g, y, z). (g, c.ok.row g u z, moves u y w z, has_pair c.ok g u z)))
      (λ x. given (c.out e h x) (λ (v, z). (e, h, stays x refl, has_pair c.ok e v z))))

  -- no pairing is larger, and one that leaves over an equation outside X is smaller
  at_most : size m n Q ≤ size m n M
  at_most = count_inject m m (λ e. any n (Q e)) (λ e. any n (M e)) (Goes M Q X) alone goes

  smaller : (e : ℕ) → e < m → X e ≡ false → LeftOver Q e → size m n Q < size m n M
  smaller e h x over = count_misses m m (λ e. any n (Q e)) (λ e. any n (M e)) (Goes M Q X) alone goes e h
      (given (c.out e h x) (λ (v, z). has_pair c.ok e v z)) missed
    where
      missed : (i : ℕ) → i < m → any n (Q i) ≡ true → Goes M Q X i e → ⊥
      missed i b t (stays a p) = clash (rw p at t) (no_pair n Q e over)
      missed i b t (moves u a w z) = clash a x

module _ {m n : ℕ} {edge M : Rel} {X : ℕ → Bool} (c : Certificate m n edge M X) where
  pub largest : Largest m n edge M
  largest = record { ok = c.ok; top = at_most c }

  pub only : (e : ℕ) → e < m → Surplus m n edge e → X e ≡ true
  only e h s = not_false (λ f.
      let less = smaller c s.pairs s.largest.ok e h f s.over in
      let more = s.largest.top M c.ok in
      omega arith)

  pub each : (e : ℕ) → X e ≡ true → Surplus m n edge e
  each e x = given (c.reached e x) (λ (f, i, free, w). reached_surplus (largest) (c.within f i) free w)

  -- who is left over by a largest pairing: the members of X
  pub left_over : (e : ℕ) → e < m → (X e ≡ true) ↔ Surplus m n edge e
  left_over e h = (each e, only e h)

  -- the unknowns in equations of X: those that the equations of X hold
  paired_in : count m (λ e. X e && any n (M e)) ≡ count n (λ u. any m (λ e. X e && edge e u))
  paired_in = le_antisymm
      (count_inject m n (λ e. X e && any n (M e)) (λ u. any m (λ e. X e && edge e u)) (λ e u. M e u ≡ true) (λ e f u a b. c.ok.one_e e f u a b)
      (λ e h t. given (any_where {n = n} (M e) (and_right (X e) (any n (M e)) t)) (λ (u, b, w).
      (u, b, w, any_here (λ g. X g && edge g u) e h (and_both (and_left (X e) (any n (M e)) t) (c.ok.fits e u w))))))
      (count_inject n m (λ u. any m (λ e. X e && edge e u)) (λ e. X e && any n (M e)) (λ u e. M e u ≡ true) (λ u v e a b. c.ok.one_u e u v a b)
      (λ u h t. given (any_where {n = m} (λ e. X e && edge e u) t) (λ (e, b, w).
      given (c.inn e u (and_left (X e) (edge e u) w) h (and_right (X e) (edge e u) w)) (λ (g, i, k).
      (g, c.ok.row g u k, k, and_both i (has_pair c.ok g u k))))))

  -- the pairs of M: one for each equation outside X, and those of X
  split_size : size m n M ≡ count m (λ e. not (X e)) + count m (λ e. X e && any n (M e))
  split_size =
      sum_same m (λ e. bit (any n (M e))) (λ e. bit (not (X e)) + bit (X e && any n (M e))) (λ e h. test (X e) (λ t. rw t (omega arith))
      (λ f. given (c.out e h f) (λ (u, w). let p = has_pair c.ok e u w in rw (f, p))))
      ∙ sum_add m (λ e. bit (not (X e))) (λ e. bit (X e && any n (M e)))

  -- X has more equations than unknowns, by what M leaves over
  pub deficit : count m X ≡ count n (λ u. any m (λ e. X e && edge e u)) + (m - size m n M)
  deficit =
      let a = paired_in in
      let b = split_size in
      let d = count_not m X in
      let r = size_rows m n M in
      omega arith
