-- A pairing that is given, and a test that it is a largest one: every unknown is held of the equations that are reached from those that it leaves over.
-- So the rank and the surplus equations are computed, and with equations and unknowns exchanged the unfixed unknowns.
use mathlib.Core.Path.{◌≡◌, refl}
use mathlib.Core.Bool.{Bool, true, ◌&&◌}
use mathlib.Core.List.{List}
use Prim.Native.Nat.{ℕ, suc, ◌<◌}
use native.Mathlib.Omega.{arith}
use lib.Dec.{eqb, ltb}
use lib.ListN.{get_or}
use borrow.Author.Tests.{eqb-true, ltb-true}
use Rattle.laws.specs.Count.{any}
use Rattle.laws.specs.Marks.{marked}
use Rattle.laws.proofs.Tests.{and_left, and_right, and_both}
use Rattle.pairing.specs.Pairing.{Rel, turn, Pairing, size, Rank, Surplus, Unfixed, Listed}
use Rattle.pairing.specs.Members.{members}
use Rattle.pairing.proofs.Sizes.{pairing_turned}
use Rattle.pairing.specs.Certificate.{Certificate}
use Rattle.pairing.proofs.Certify.{overs, certified}
use Rattle.pairing.proofs.Certificate.{largest, left_over}
use Rattle.pairing.proofs.Turn.{left_over_unknown}
use Rattle.pairing.proofs.Lists.{members_listed}
use Rattle.analysis.proofs.Finite.{all, all_at, all2, all2_at, implies, implies_at}

-- the pairs of a list that has for each equation the number of its unknown, or 0
abbrev pub pairs_in : ℕ → ℕ → List ℕ → Rel
pairs_in m n l e u = ltb e m && (ltb u n && eqb (get_or l e 0) (suc u))

abbrev pub is_pairing : ℕ → ℕ → Rel → List ℕ → Bool
is_pairing m n edge l = all2 m n (λ e u. implies (pairs_in m n l e u) (edge e u))
    && all2 m m (λ e f. all n (λ u. implies (pairs_in m n l e u && pairs_in m n l f u) (eqb e f)))

module _ (m n : ℕ) (edge : Rel) (l : List ℕ) where
  row : (e u : ℕ) → pairs_in m n l e u ≡ true → e < m
  row e u t = ltb-true e m (and_left (ltb e m) (ltb u n && eqb (get_or l e 0) (suc u)) t)

  inner : (e u : ℕ) → pairs_in m n l e u ≡ true → (ltb u n && eqb (get_or l e 0) (suc u)) ≡ true
  inner e u t = and_right (ltb e m) (ltb u n && eqb (get_or l e 0) (suc u)) t

  col : (e u : ℕ) → pairs_in m n l e u ≡ true → u < n
  col e u t = ltb-true u n (and_left (ltb u n) (eqb (get_or l e 0) (suc u)) (inner e u t))

  names : (e u : ℕ) → pairs_in m n l e u ≡ true → get_or l e 0 ≡ suc u
  names e u t = eqb-true (get_or l e 0) (suc u) (and_right (ltb u n) (eqb (get_or l e 0) (suc u)) (inner e u t))

  pub is_pairing_lem : is_pairing m n edge l ≡ true → Pairing m n edge (pairs_in m n l)
  is_pairing_lem t = record {
    row = row;
    col = col;
    fits = λ e u h. implies_at (all2_at (λ e u. implies (pairs_in m n l e u) (edge e u)) (and_left fit one t) e u (row e u h) (col e u h)) h;
    one_u = λ e u v h k. let a = names e u h in let b = names e v k in omega arith;
    one_e = λ e f u h k. eqb-true e f (implies_at (all_at (λ u. implies (pairs_in m n l e u && pairs_in m n l f u) (eqb e f))
        (all2_at (λ e f. all n (λ u. implies (pairs_in m n l e u && pairs_in m n l f u) (eqb e f))) (and_right fit one t) e f (row e u h) (row f u k))
        u (col e u h)) (and_both h k));
  }
    where
      fit : Bool
      fit = all2 m n (λ e u. implies (pairs_in m n l e u) (edge e u))

      one : Bool
      one = all2 m m (λ e f. all n (λ u. implies (pairs_in m n l e u && pairs_in m n l f u) (eqb e f)))

-- every unknown of those in X is held
abbrev all_held : ℕ → ℕ → Rel → Rel → List Bool → Bool
all_held m n edge M X = all2 m n (λ e u. implies (marked X e && edge e u) (any m (λ g. M g u)))

abbrev pub is_largest : ℕ → ℕ → Rel → Rel → Bool
is_largest m n edge M = all_held m n edge M (overs m n edge M)

shown : (m n : ℕ) (edge M : Rel) → Pairing m n edge M → is_largest m n edge M ≡ true → Certificate m n edge M (marked (overs m n edge M))
shown m n edge M k t = certified k (λ e u h x b o.
    implies_at (all2_at (λ e u. implies (marked (overs m n edge M) e && edge e u) (any m (λ g. M g u))) t e u h b) (and_both x o))

module _ (m n : ℕ) (edge M : Rel) (k : Pairing m n edge M) where
  pub rank_is : is_largest m n edge M ≡ true → Rank m n edge (size m n M)
  rank_is t = record { pairs = M; largest = largest (shown m n edge M k t); counts = refl }

  pub surplus_are : is_largest m n edge M ≡ true → Listed m (Surplus m n edge) (members m (marked (overs m n edge M)))
  surplus_are t = members_listed m (marked (overs m n edge M)) (left_over (shown m n edge M k t))

  pub unfixed_are : is_largest n m (turn edge) (turn M) ≡ true → Listed n (Unfixed m n edge) (members n (marked (overs n m (turn edge) (turn M))))
  unfixed_are t = members_listed n (marked (overs n m (turn edge) (turn M))) (left_over_unknown (shown n m (turn edge) (turn M) (pairing_turned k) t))
