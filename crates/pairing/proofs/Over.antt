-- From two certificates, one of the table and one of the transposed table, to what is handed back: the rank, who is surplus, who is unfixed.
use mathlib.Core.Path.{◌≡◌, sym, ap, ◌∙◌}
use mathlib.Core.Bool.{Bool, true, false, not}
use mathlib.Core.List.{List}
use mathlib.Core.Logic.{◌↔◌}
use Prim.Native.Nat.{ℕ, suc, ◌-◌, ◌<◌}
use native.Mathlib.Omega.{arith}
use lib.Dec.{eqb}
use lib.ListN.{length}
use lib.Seq.{ext_get_or}
use borrow.Author.Tests.{eqb-true, eqb-false, eq-eqb}
use Rattle.laws.specs.Count.{bit, count, any}
use Rattle.laws.specs.Marks.{marked}
use Rattle.laws.proofs.Tests.{test, given, not_true, same_test}
use Rattle.laws.proofs.Search.{any_here, any_where}
use Rattle.laws.proofs.Sum.{sum_same}
use Rattle.std.specs.declared.option.Option.{Option}
use Rattle.table.specs.declared.number.Equation.{Equation}
use Rattle.pairing.specs.Pairing.{Rel, turn, Pairing, size}
use Rattle.pairing.specs.Holders.{holder, held, Reach, start, step}
use Rattle.pairing.specs.Certificate.{Certificate}
use Rattle.pairing.specs.Handed.{LeftIs}
use Rattle.pairing.proofs.Sizes.{size_turned, rank_one}
use Rattle.pairing.proofs.Certificate.{largest, left_over}
use Rattle.pairing.proofs.Hall.{reach_within}
use Rattle.pairing.proofs.Turn.{left_over_unknown}

-- a certificate speaks of the equations and unknowns below the bounds alone
module _ {m n : ℕ} {edge edge' M : Rel} {X : ℕ → Bool} (same : (e u : ℕ) → e < m → u < n → edge e u ≡ edge' e u) (c : Certificate m n edge M X) where
  pairing_carry : Pairing m n edge' M
  pairing_carry = record {
    row = c.ok.row;
    col = c.ok.col;
    fits = λ e u t. sym (same e u (c.ok.row e u t) (c.ok.col e u t)) ∙ c.ok.fits e u t;
    one_u = c.ok.one_u;
    one_e = c.ok.one_e;
  }

  reach_carry : {f e : ℕ} → f < m → Reach edge M f e → Reach edge' M f e
  reach_carry b start = start
  reach_carry b (step {a = x} {e = e} u w d t) = step u (reach_carry b w) (sym (same x u (reach_within c.ok b w) (c.ok.col e u t)) ∙ d) t

  pub certificate_carry : Certificate m n edge' M X
  certificate_carry = record {
    ok = pairing_carry;
    within = c.within;
    out = c.out;
    inn = λ e u x b d. c.inn e u x b (same e u (c.within e x) b ∙ d);
    reached = λ e x. given (c.reached e x) (λ (f, y, o, w). (f, y, o, reach_carry (c.within f y) w));
  }

-- an unknown is held exactly if it has a holder
held_any : {m n : ℕ} {edge : Rel} (h : List (Option Equation)) → Pairing m n edge (held h) → (u : ℕ) → any m (λ e. held h e u) ≡ not (eqb (holder h u) 0)
held_any {m} h ok u = test (eqb (holder h u) 0)
    (λ z. rw z (not_true (λ t. given (any_where {n = m} (λ e. held h e u) t) (λ (e, b, w). absurd (nobody e (eqb-true (holder h u) 0 z) w)))))
    (λ z. rw z (let w = by (eqb-false (holder h u) 0 z) in any_here (λ e. held h e u) (holder h u - 1) (ok.row (holder h u - 1) u w) w))
  where
    nobody : (e : ℕ) → holder h u ≡ 0 → held h e u ≡ true → ⊥
    nobody e q w = let y = eqb-true (holder h u) (suc e) w in omega arith

    by : (holder h u ≡ 0 → ⊥) → held h (holder h u - 1) u ≡ true
    by ne = eq-eqb (holder h u) (suc (holder h u - 1)) (omega arith)

-- the rank is the number of unknowns that are held
pub held_size : {m n : ℕ} {edge : Rel} (h : List (Option Equation)) → Pairing m n edge (held h) → size m n (held h) ≡ count n (λ u. not (eqb (holder h u) 0))
held_size {m} {n} h ok =
    sym (size_turned ok) ∙ sum_same n (λ u. bit (any m (λ e. held h e u))) (λ u. bit (not (eqb (holder h u) 0))) (λ u b. ap bit (held_any h ok u))

pub left_is : {m n k : ℕ} {edge N : Rel} (h : List (Option Equation)) {a b : List Bool} → Certificate m n edge (held h) (marked a) → Certificate n m (turn edge) N (marked b)
    → k ≡ count n (λ u. not (eqb (holder h u) 0)) → LeftIs m n edge k a b
left_is h c d q = record {
  ranked = record { pairs = held h; largest = largest c; counts = held_size h c.ok ∙ sym q };
  equations = λ e. (λ t. (c.within e t, (left_over c e (c.within e t)).0 t), λ (l, s). (left_over c e l).1 s);
  unknowns = λ u. (λ t. (d.within u t, (left_over_unknown d u (d.within u t)).0 t), λ (l, s). (left_over_unknown d u l).1 s);
}

-- only one such is handed back: the rank is one, and marks that mean the same are the same
marks_one : (a b : List Bool) → length a ≡ length b → {P : ℕ → Type 0} → ((e : ℕ) → (marked a e ≡ true) ↔ P e) → ((e : ℕ) → (marked b e ≡ true) ↔ P e) → a ≡ b
marks_one a b l p q = ext_get_or false a b l (λ i _. same_test (λ t. (q i).1 ((p i).0 t)) (λ t. (p i).1 ((q i).0 t)))

pub left_one : {m n k k' : ℕ} {edge : Rel} (s s' w w' : List Bool) → length s ≡ length s' → length w ≡ length w' → LeftIs m n edge k s w → LeftIs m n edge k' s' w'
    → (k ≡ k') × (s ≡ s') × (w ≡ w')
left_one s s' w w' ls lw x y =
    (rank_one x.ranked y.ranked, marks_one s s' ls x.equations y.equations, marks_one w w' lw x.unknowns y.unknowns)
