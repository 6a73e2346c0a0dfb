-- From who may be left over to the verdict: all equations and unknowns are paired exactly if E = U = rank.
use mathlib.Core.Path.{◌≡◌, sym, subst}
use mathlib.Core.Bool.{Bool, true, false, ◌&&◌}
use mathlib.Core.List.{List, [], ◌++◌, map}
use Prim.Native.Nat.{ℕ, suc}
use native.Mathlib.Omega.{arith}
use lib.Dec.{eqb}
use lib.ListN.{drop}
use borrow.Author.Tests.{eqb-true, eq-eqb}
use Rattle.laws.specs.Marks.{marked}
use Rattle.laws.proofs.Tests.{clash, and_left, and_right, and_both}
use Rattle.table.specs.Model.{occurs_at, Bounded}
use Rattle.pairing.specs.Pairing.{Rel, Rank}
use Rattle.pairing.specs.Handed.{LeftIs}
use Rattle.pairing.specs.Members.{members}
use Rattle.pairing.proofs.Sizes.{size_full}
use Rattle.pairing.proofs.Lists.{members_listed}
use Rattle.counts.specs.Work.{Pairable}
use Rattle.analysis.specs.Outcome.{packed, strips, answer_bytes, Solved, Verdict}

-- the test of the code, taken apart
pub paired_square : (E U rank : ℕ) → (eqb E U && eqb rank E) ≡ true → E ≡ U
paired_square E U rank t = eqb-true E U (and_left (eqb E U) (eqb rank E) t)

pub paired_all : (E U rank : ℕ) → (eqb E U && eqb rank E) ≡ true → rank ≡ E
paired_all E U rank t = eqb-true rank E (and_right (eqb E U) (eqb rank E) t)

-- what the counts ask for: with all paired a largest pairing takes in every equation
pub all_pairable : {E U rank : ℕ} {t : List (List ℕ)} {surplus unfixed : List Bool} → Bounded E U t → LeftIs E U (occurs_at t) rank surplus unfixed
    → (eqb E U && eqb rank E) ≡ true → Pairable E t
all_pairable {E} {U} {rank} {t} j l w =
    let same = paired_square E U rank w in
    let all : Rank E U (occurs_at t) E = subst (λ (k : ℕ). Rank E U (occurs_at t) k) (paired_all E U rank w) l.ranked in
    let r : Rank E E (occurs_at t) E = subst (λ (n : ℕ). Rank E n (occurs_at t) E) (sym same) all in
    record {
      bounded = record { equations = j.equations; unknowns = j.equations; codes = λ e u h k. j.codes e u h (omega arith) };
      pairs = r.pairs;
      full = size_full r.largest.ok r.counts;
    }

pub verdict_solvable : {E U rank : ℕ} {edge : Rel} {ord : ℕ → ℕ → ℕ} {surplus unfixed : List Bool} {before : List ℕ} {number : ℕ} {after : List ℕ}
    → LeftIs E U edge rank surplus unfixed → (eqb E U && eqb rank E) ≡ true → Solved E edge ord E before number after → Verdict E U edge ord before number after
verdict_solvable {E} {U} {rank} {edge} {ord} {before = before} {number} {after} l w s =
    let all = paired_all E U rank w in
    record {
      rank = rank;
      ranked = l.ranked;
      solvable = λ _ _. subst (λ (k : ℕ). Solved E edge ord k before number after) (sym all) s;
      singular = λ n. absurd (n (paired_square E U rank w) all);
    }

pub verdict_singular : {E U rank : ℕ} {edge : Rel} {ord : ℕ → ℕ → ℕ} {surplus unfixed : List Bool} {before : List ℕ} {number : ℕ} {after : List ℕ}
    → LeftIs E U edge rank surplus unfixed → (eqb E U && eqb rank E) ≡ false → number ≡ packed 10 0 rank 0 0 0
    → after ≡ strips (map suc (members E (marked surplus))) (map suc (members U (marked unfixed))) [] [] [] ++ drop answer_bytes before
    → Verdict E U edge ord before number after
verdict_singular {E} {U} {rank} {surplus = surplus} {unfixed} l w q r = record {
  rank = rank;
  ranked = l.ranked;
  solvable = λ a b. clash (and_both (eq-eqb E U a) (eq-eqb rank E b)) w;
  singular = λ _. record {
    lists = record {
      surplus = members E (marked surplus);
      unfixed = members U (marked unfixed);
      all_surplus = members_listed E (marked surplus) (λ e h. (λ t. ((l.equations e).0 t).1, λ s. (l.equations e).1 (h, s)));
      all_unfixed = members_listed U (marked unfixed) (λ u h. (λ t. ((l.unknowns u).0 t).1, λ s. (l.unknowns u).1 (h, s)));
    };
    says = q;
    holds = r;
  };
}
