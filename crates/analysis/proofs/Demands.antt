-- Demand 3, of every reply: what is called solvable, the rank that is shown, and what the surplus list says of the model. And of demand 1: a code that is no
-- verdict leaves the buffer as it was.
use mathlib.Core.Path.{◌≡◌}
use mathlib.Core.Bool.{◌&&◌}
use mathlib.Core.List.{List, []}
use mathlib.Core.Logic.{◌⊎◌, inl, inr, ◌↔◌}
use Prim.Native.Nat.{ℕ, ◌+◌, ◌-◌, ◌<◌, ◌≤◌}
use native.Mathlib.Omega.{arith}
use lib.Dec.{eqb}
use lib.ListN.{length}
use borrow.Author.Tests.{eqb-true, eqb-false, eq-eqb}
use Rattle.laws.proofs.Tests.{test, either, given, clash, and_both}
use Rattle.table.specs.Model.{occurs_at, rows_of}
use Rattle.pairing.specs.Pairing.{Rank, Solvable, Listed}
use Rattle.pairing.specs.Contained.{unknowns_in}
use Rattle.pairing.proofs.Sizes.{rank_one}
use Rattle.pairing.proofs.Solve.{solvable_rank, solvable_none}
use Rattle.pairing.proofs.Deficit.{listed_deficit}
use Rattle.analysis.specs.Outcome.{code_in, rank_in, refusal, Reply}
use Rattle.analysis.proofs.Packed.{refusal_most, reads_back}
use Rattle.analysis.proofs.Verdicts.{paired_square, paired_all}

-- E = U = rank, or not
square : (E U rank : ℕ) → ((E ≡ U) × (rank ≡ E)) ⊎ (E ≡ U → rank ≡ E → ⊥)
square E U rank = test (eqb E U && eqb rank E)
    (λ w. inl (paired_square E U rank w, paired_all E U rank w))
    (λ w. inr (λ p q. clash (and_both (eq-eqb E U p) (eq-eqb rank E q)) w))

module _ {E U : ℕ} {t before : List ℕ} {number : ℕ} {after : List ℕ} (r : Reply E U t before number after) where
  -- the code of a refusal is 1 to 4
  pub called_refused : (refusal E U t (length before) ≡ 0 → ⊥) → (1 ≤ code_in number) × (code_in number ≤ 4)
  called_refused n = let c = ((reads_back r).refused n).is_code in let m = refusal_most E U t (length before) in (omega arith, omega arith)

  module _ (z : refusal E U t (length before) ≡ 0) where
    unsolvable : (E ≡ U → (r.verdict z).rank ≡ E → ⊥) → Solvable E U (occurs_at (rows_of E U t)) → ⊥
    unsolvable n s = given (solvable_rank.0 s) (λ (e, w). n e (rank_one (r.verdict z).ranked w))

    called : ((code_in number ≡ 0) × Solvable E U (occurs_at (rows_of E U t))) ⊎ ((code_in number ≡ 10) × (Solvable E U (occurs_at (rows_of E U t)) → ⊥))
    called = let v = r.verdict z in either (square E U v.rank)
        (λ (e, k). inl (((reads_back r).solvable z e k).is_code, solvable_rank.1 (e, rw k at v.ranked)))
        (λ n. inr (((reads_back r).singular z n).is_code, unsolvable n))

    -- code 0 exactly if some pairing takes in all equations and all unknowns, and code 10 exactly if none does
    pub called_solvable : (code_in number ≡ 0) ↔ Solvable E U (occurs_at (rows_of E U t))
    called_solvable = either called (λ (c, s). (λ _. s, λ _. c)) (λ (c, n). (λ q. absurd (omega arith), λ s. absurd (n s)))

    pub called_singular : (code_in number ≡ 10) ↔ (Solvable E U (occurs_at (rows_of E U t)) → ⊥)
    called_singular = either called (λ (c, s). (λ q. absurd (omega arith), λ n. absurd (n s))) (λ (c, n). (λ _. n, λ _. c))

    -- the rank that is shown is the size of a largest pairing
    pub shown_rank : Rank E U (occurs_at (rows_of E U t)) (rank_in number)
    shown_rank = let v = r.verdict z in either (square E U v.rank)
        (λ (e, k). rw ((reads_back r).solvable z e k).is_rank v.ranked)
        (λ n. rw ((reads_back r).singular z n).is_rank v.ranked)

    -- of a singular model
    module _ (n : E ≡ U → (r.verdict z).rank ≡ E → ⊥) where
      -- the surplus equations together contain fewer unknowns than their number by exactly what a largest pairing leaves over of the equations
      pub surplus_contains : length ((r.verdict z).singular n).lists.surplus
          ≡ unknowns_in U (occurs_at (rows_of E U t)) ((r.verdict z).singular n).lists.surplus + (E - rank_in number)
      surplus_contains = listed_deficit shown_rank ((r.verdict z).singular n).lists.all_surplus

      -- the two lists are not both empty
      pub some_listed : ((r.verdict z).singular n).lists.surplus ≡ [] → ((r.verdict z).singular n).lists.unfixed ≡ [] → ⊥
      some_listed a b =
          let s = ((r.verdict z).singular n).lists in
          unsolvable n ((solvable_none shown_rank).1 (empty a s.all_surplus, empty b s.all_unfixed))
        where
          empty : {m : ℕ} {P : ℕ → Type 0} {l : List ℕ} → l ≡ [] → Listed m P l → (i : ℕ) → i < m → P i → ⊥
          empty q k i h p = given (k.all i h p) (λ (j, w, _). let y : j < 0 = rw q at w in omega arith)

  -- so code 0 alone says solvable
  pub code_zero : (code_in number ≡ 0) ↔ ((refusal E U t (length before) ≡ 0) × Solvable E U (occurs_at (rows_of E U t)))
  code_zero = test (eqb (refusal E U t (length before)) 0)
      (λ w. let z = eqb-true (refusal E U t (length before)) 0 w in (λ c. (z, (called_solvable z).0 c), λ (_, s). (called_solvable z).1 s))
      (λ w. let n = eqb-false (refusal E U t (length before)) 0 w in (λ c. let l = (called_refused n).0 in absurd (omega arith), λ (z, _). absurd (n z)))

  -- a reply that calls the model neither solvable nor singular has changed no byte
  pub refused_leaves : (code_in number ≡ 0 → ⊥) → (code_in number ≡ 10 → ⊥) → after ≡ before
  refused_leaves a b = test (eqb (refusal E U t (length before)) 0)
      (λ w. either (called (eqb-true (refusal E U t (length before)) 0 w)) (λ (c, _). absurd (a c)) (λ (c, _). absurd (b c)))
      (λ w. (r.refused (eqb-false (refusal E U t (length before)) 0 w)).holds)
