-- Demand 3's last sentence: the surplus equations together contain fewer unknowns than their number by exactly what a largest pairing leaves over of the
-- equations. It holds of the set of a certificate, every largest pairing has one, and its set is that of the surplus equations.
use mathlib.Core.Path.{◌≡◌, refl, ap}
use mathlib.Core.Bool.{Bool, true, ◌&&◌, ◌||◌}
use mathlib.Core.List.{List, [], ◌∷◌, ◌++◌}
use mathlib.Core.Logic.{◌↔◌}
use Prim.Native.Nat.{ℕ, zero, suc, ◌+◌, ◌-◌, ◌<◌}
use native.Mathlib.Omega.{arith}
use lib.ListN.{length}
use Rattle.laws.specs.Count.{bit, count, any}
use Rattle.laws.specs.Marks.{marked}
use Rattle.laws.proofs.Tests.{test}
use Rattle.laws.proofs.Sum.{sum_same}
use Rattle.pairing.specs.Pairing.{Rel, Rank, Surplus, Listed}
use Rattle.pairing.specs.Members.{members}
use Rattle.pairing.specs.Contained.{contained, unknowns_in}
use Rattle.pairing.proofs.Certify.{overs, certify}
use Rattle.pairing.proofs.Certificate.{left_over, deficit}
use Rattle.pairing.proofs.Lists.{members_zero, members_yes, members_not, members_length, members_listed, listed_one}

-- the unknowns of the members of p
contained_end : (edge : Rel) (l : List ℕ) (e u : ℕ) → contained edge (l ++ e ∷ []) u ≡ (edge e u || contained edge l u)
contained_end edge [] e u = refl
contained_end edge (f ∷ l) e u = let r = contained_end edge l e u in test (edge f u) (λ t. test (edge e u) (λ s. cc) (λ s. cc)) (λ t. cc)

contained_members : (edge : Rel) (m : ℕ) (p : ℕ → Bool) (u : ℕ) → contained edge (members m p) u ≡ any m (λ e. p e && edge e u)
contained_members edge zero p u = rw (members_zero p)
contained_members edge (suc m) p u = let r = contained_members edge m p u in test (p m)
    (λ t. rw (members_yes m p t, contained_end edge (members m p) m u, t, r))
    (λ f. rw (members_not m p f, f, r))

unknowns_members : (m n : ℕ) (edge : Rel) (p : ℕ → Bool) → unknowns_in n edge (members m p) ≡ count n (λ u. any m (λ e. p e && edge e u))
unknowns_members m n edge p =
    sum_same n (λ u. bit (contained edge (members m p) u)) (λ u. bit (any m (λ e. p e && edge e u))) (λ u _. ap bit (contained_members edge m p u))

-- of the list of the surplus equations
pub listed_deficit : {m n k : ℕ} {edge : Rel} {l : List ℕ} → Rank m n edge k → Listed m (Surplus m n edge) l → length l ≡ unknowns_in n edge l + (m - k)
listed_deficit {m} {n} {edge = edge} r s =
    let X = marked (overs m n edge r.pairs) in
    let c = certify r.largest in
    let q = r.counts in
    rw (listed_one s (members_listed m X (left_over c))) (omega (arith, members_length m X, unknowns_members m n edge X, deficit c))

-- of any test of who is surplus
pub surplus_deficit : {m n k : ℕ} {edge : Rel} → Rank m n edge k → (Y : ℕ → Bool) → ((e : ℕ) → e < m → (Y e ≡ true) ↔ Surplus m n edge e)
    → count m Y ≡ count n (λ u. any m (λ e. Y e && edge e u)) + (m - k)
surplus_deficit {m} {n} {edge = edge} r Y is =
    omega (arith, members_length m Y, unknowns_members m n edge Y, listed_deficit r (members_listed m Y is))
