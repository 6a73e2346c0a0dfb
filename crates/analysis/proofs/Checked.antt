-- The nine lettered models are outcomes by the definitions. A test of a row that antt computes, from the row and a pairing that is given for it; one lemma that
-- the test implies the row's statement; and the table is one computation.
use mathlib.Core.Path.{◌≡◌, refl, sym, ◌∙◌, subst, fun_ext}
use mathlib.Core.Bool.{Bool, true, false, not, ◌&&◌}
use mathlib.Core.List.{List, [], ◌∷◌, ◌++◌, map}
use Prim.{tt}
use Prim.Native.Nat.{ℕ, suc, ◌-◌, ◌*◌, ◌≤◌}
use native.Mathlib.Omega.{arith}
use lib.Dec.{eqb, ltb}
use lib.ListN.{length, get_or, drop}
use borrow.Author.Tests.{eqb-true, eq-eqb, ltb-true, le-ltb}
use Rattle.laws.specs.Tab.{tab, pick, number_at}
use Rattle.laws.specs.Marks.{marked}
use Rattle.laws.proofs.Tests.{test, tests, true≢false, not_true, and_left, and_right, and_both}
use Rattle.laws.proofs.Tab.{get_or_tab, get_or_past}
use Rattle.table.specs.Model.{limit, in_limits, first_above, code_at, lent_code, rows_of}
use Rattle.table.proofs.Model.{limits, square_at}
use Rattle.pairing.specs.Pairing.{Rel, turn, Pairing, size}
use Rattle.pairing.specs.First.{Partners}
use Rattle.pairing.specs.Members.{members}
use Rattle.pairing.proofs.Certify.{overs}
use Rattle.counts.specs.Fit.{leading, index_of, freedom_of}
use Rattle.blocks.specs.Blocks.{needs_at, before}
use Rattle.blocks.proofs.ReachTables.{needs_within}
use Rattle.analysis.specs.Outcome.{packed, strips, answer_bytes, refusal, Solved, Singular, Verdict}
use Rattle.analysis.specs.Written.{places_of}
use Rattle.analysis.specs.Models.{Row, Holds, Every, models}
use Rattle.std.specs.Prelude.{nat_eq}
use Rattle.std.specs.Cmp.Lexicographic.{pointwise, same_text}
use Rattle.std.proofs.lemmas.Bool.{not-true}
use Rattle.analysis.proofs.Finite.{all_true, all_true_at}
use Rattle.analysis.proofs.Verdicts.{paired_square, paired_all}
use Rattle.analysis.proofs.RankBy.{pairs_in, is_pairing, is_pairing_lem, is_largest, rank_is, surplus_are, unfixed_are}
use Rattle.analysis.proofs.LeastBy.{is_partners, is_partners_lem, is_over, is_least, is_least_lem}
use Rattle.analysis.proofs.FirstBy.{is_first, is_first_lem}
use Rattle.analysis.proofs.PlacedBy.{is_placed, is_placed_lem}

-- the row's strips, read as a solvable answer, are one
abbrev lead_in : Rel → (ℕ → ℕ → ℕ) → Row → Rel
lead_in edge ord r = leading edge ord (number_at r.strip1) (number_at r.strip2)

abbrev needs_in : ℕ → Rel → (ℕ → ℕ → ℕ) → Row → Rel
needs_in n edge ord r = needs_at n (lead_in edge ord r) (number_at (places_of r.strip3))

abbrev solved_tests : ℕ → Rel → (ℕ → ℕ → ℕ) → ℕ → Row → List Bool
solved_tests n edge ord rank r =
    eqb (length r.strip1) n
    ∷ eqb (length r.strip2) n
    ∷ eqb (length (places_of r.strip3)) n
    ∷ eqb (length (places_of r.strip4)) n
    ∷ eqb (length r.strip5) n
    ∷ pointwise nat_eq r.strip3 (map suc (places_of r.strip3))
    ∷ pointwise nat_eq r.strip4 (map suc (places_of r.strip4))
    ∷ is_over n edge ord (number_at r.strip1) (number_at r.strip2)
    ∷ is_partners n (lead_in edge ord r) (number_at (places_of r.strip3))
    ∷ is_least n (lead_in edge ord r) (number_at r.strip1) (number_at (places_of r.strip3))
    ∷ is_first n (lead_in edge ord r) (number_at (places_of r.strip3))
    ∷ is_placed n (needs_in n edge ord r) (number_at (places_of r.strip4)) (number_at r.strip5) (before (number_at r.strip5) n)
    ∷ eqb r.number (packed 0 0 rank (index_of n (number_at r.strip1)) (freedom_of n n (number_at r.strip1) (number_at r.strip2))
    (before (number_at r.strip5) n))
    ∷ []

abbrev bytes_of : Row → List ℕ → List ℕ
bytes_of r before = strips r.strip1 r.strip2 r.strip3 r.strip4 r.strip5 ++ drop answer_bytes before

solved : (n : ℕ) (edge : Rel) (ord : ℕ → ℕ → ℕ) (rank : ℕ) (r : Row) (behind : List ℕ) → all_true (solved_tests n edge ord rank r) ≡ true
    → Solved n edge ord rank behind r.number (bytes_of r behind)
solved n edge ord rank r behind t = record {
  worked = record {
    counts = r.strip1;
    tops = r.strip2;
    partner = places_of r.strip3;
    order = places_of r.strip4;
    block = r.strip5;
    blocks = before (number_at r.strip5) n;
    sizes = (long (at 0), long (at 1), long (at 2), long (at 3), long (at 4));
    least = is_least_lem n edge ord (number_at r.strip1) (number_at r.strip2) (number_at (places_of r.strip3)) (at 7) partners (at 9);
    first = is_first_lem n (lead_in edge ord r) (number_at (places_of r.strip3)) partners (at 10);
    placed = is_placed_lem n (needs_in n edge ord r) (needs_within n (lead_in edge ord r) (number_at (places_of r.strip3))) (number_at (places_of r.strip4))
        (number_at r.strip5) (before (number_at r.strip5) n) (at 11);
  };
  says = eqb-true r.number (packed 0 0 rank (index_of n (number_at r.strip1)) (freedom_of n n (number_at r.strip1) (number_at r.strip2))
      (before (number_at r.strip5) n)) (at 12);
  holds = numbered (same_text r.strip3 (map suc (places_of r.strip3)) (sym (at 5))) (same_text r.strip4 (map suc (places_of r.strip4)) (sym (at 6)));
}
  where
    at : (i : ℕ) → get_or (solved_tests n edge ord rank r) i true ≡ true
    at = all_true_at (solved_tests n edge ord rank r) t

    long : {k : ℕ} → eqb k n ≡ true → k ≡ n
    long {k} w = eqb-true k n w

    partners : Partners n n (lead_in edge ord r) (number_at (places_of r.strip3))
    partners = is_partners_lem n (lead_in edge ord r) (number_at (places_of r.strip3)) (at 8)

    numbered : {c d : List ℕ} → r.strip3 ≡ c → r.strip4 ≡ d → bytes_of r behind ≡ strips r.strip1 r.strip2 c d r.strip5 ++ drop answer_bytes behind
    numbered {c} {d} p q = rw (p, q)

-- the row's strips, read as a singular answer, are one; M a largest pairing
abbrev singular_tests : ℕ → ℕ → Rel → Rel → Row → List Bool
singular_tests E U edge M r =
    pointwise nat_eq r.strip1 (map suc (members E (marked (overs E U edge M))))
    ∷ pointwise nat_eq r.strip2 (map suc (members U (marked (overs U E (turn edge) (turn M)))))
    ∷ pointwise nat_eq r.strip3 []
    ∷ pointwise nat_eq r.strip4 []
    ∷ pointwise nat_eq r.strip5 []
    ∷ eqb r.number (packed 10 0 (size E U M) 0 0 0)
    ∷ []

singular : (E U : ℕ) (edge M : Rel) (r : Row) (behind : List ℕ) → Pairing E U edge M → is_largest E U edge M ≡ true → is_largest U E (turn edge) (turn M) ≡ true
    → all_true (singular_tests E U edge M r) ≡ true → Singular E U edge (size E U M) behind r.number (bytes_of r behind)
singular E U edge M r behind k a b t = record {
  lists = record {
    surplus = members E (marked (overs E U edge M));
    unfixed = members U (marked (overs U E (turn edge) (turn M)));
    all_surplus = surplus_are E U edge M k a;
    all_unfixed = unfixed_are E U edge M k b;
  };
  says = eqb-true r.number (packed 10 0 (size E U M) 0 0 0) (at 5);
  holds = listed (same_text r.strip1 (map suc (members E (marked (overs E U edge M)))) (sym (at 0)))
      (same_text r.strip2 (map suc (members U (marked (overs U E (turn edge) (turn M))))) (sym (at 1)))
      (same_text r.strip3 [] (sym (at 2))) (same_text r.strip4 [] (sym (at 3))) (same_text r.strip5 [] (sym (at 4)));
}
  where
    at : (i : ℕ) → get_or (singular_tests E U edge M r) i true ≡ true
    at = all_true_at (singular_tests E U edge M r) t

    listed : {v w x y z : List ℕ} → r.strip1 ≡ v → r.strip2 ≡ w → r.strip3 ≡ x → r.strip4 ≡ y → r.strip5 ≡ z
        → bytes_of r behind ≡ strips v w x y z ++ drop answer_bytes behind
    listed {v} {w} {x} {y} {z} p q s t u = rw (p, q, s, t, u)

-- solvable or singular, as the size of the given pairing says
abbrev verdict_tests : Rel → (ℕ → ℕ → ℕ) → List ℕ → Row → List Bool
verdict_tests edge ord l r =
    let E = r.equations in
    let U = r.unknowns in
    let M = pairs_in E U l in
    is_pairing E U edge l
    ∷ is_largest E U edge M
    ∷ is_largest U E (turn edge) (turn M)
    ∷ pick (eqb E U && eqb (size E U M) E) (all_true (solved_tests E edge ord (size E U M) r)) (all_true (singular_tests E U edge M r))
    ∷ []

module _ (edge : Rel) (ord : ℕ → ℕ → ℕ) (l : List ℕ) (r : Row) (t : all_true (verdict_tests edge ord l r) ≡ true) where
  abbrev E : ℕ
  E = r.equations

  abbrev U : ℕ
  U = r.unknowns

  abbrev M : Rel
  M = pairs_in E U l

  at : (i : ℕ) → get_or (verdict_tests edge ord l r) i true ≡ true
  at = all_true_at (verdict_tests edge ord l r) t

  k : Pairing E U edge M
  k = is_pairing_lem E U edge l (at 0)

  full : (eqb E U && eqb (size E U M) E) ≡ true → all_true (solved_tests E edge ord (size E U M) r) ≡ true
  full w = rw w at (at 3)

  short : (eqb E U && eqb (size E U M) E) ≡ false → all_true (singular_tests E U edge M r) ≡ true
  short w = rw w at (at 3)

  verdict : (behind : List ℕ) → Verdict E U edge ord behind r.number (bytes_of r behind)
  verdict behind = record {
    rank = size E U M;
    ranked = rank_is E U edge M k (at 1);
    solvable = λ p q. solved E edge ord (size E U M) r behind (full (and_both (eq-eqb E U p) (eq-eqb (size E U M) E q)));
    singular = λ n. singular E U edge M r behind k (at 1) (at 2) (short (not_true (λ w.
        n (paired_square E U (size E U M) w) (paired_all E U (size E U M) w))));
  }

-- within the limits the rows have the lent codes, and nothing else
codes_are : (E U : ℕ) (t : List ℕ) → E ≤ limit → U ≤ limit → code_at (rows_of E U t) ≡ lent_code E U t
codes_are E U t h k = fun_ext (λ e. fun_ext (λ u. here e u))
  where
    -- nothing is lent outside
    outside : (e u : ℕ) → (ltb e E && ltb u U) ≡ false → lent_code E U t e u ≡ 0
    outside e u f = rw f refl

    here : (e u : ℕ) → code_at (rows_of E U t) e u ≡ lent_code E U t e u
    here e u = test (ltb e limit)
        (λ a. test (ltb u limit)
        (λ b. square_at (lent_code E U t) e u (ltb-true e limit a) (ltb-true u limit b))
        (λ b. rw (get_or_tab limit (λ x. tab limit (lent_code E U t x)) e [] (ltb-true e limit a)) (get_or_past limit (lent_code E U t e) u 0 (omega (arith, tests))
        ∙ sym (outside e u (not_true (λ w. let z = ltb-true u U (and_right (ltb e E) (ltb u U) w) in absurd (omega (arith, tests))))))))
        (λ a. rw (get_or_past limit (λ x. tab limit (lent_code E U t x)) e [] (omega (arith, tests)))
        (sym (outside e u (not_true (λ w. let z = ltb-true e E (and_left (ltb e E) (ltb u U) w) in absurd (omega (arith, tests)))))))

-- no refusal, where the answer buffer is long enough
abbrev judged : Row → Bool
judged r = in_limits r.equations r.unknowns
    && (eqb (length r.table) (r.equations * r.unknowns) && not (ltb (first_above r.table) (length r.table)))

not_refused : (r : Row) → judged r ≡ true → (before : List ℕ) → answer_bytes ≤ length before → refusal r.equations r.unknowns r.table (length before) ≡ 0
not_refused r t before h =
    let a = in_limits r.equations r.unknowns in
    let b = eqb (length r.table) (r.equations * r.unknowns) in
    let c = ltb (first_above r.table) (length r.table) in
    let s = and_right a (b && not c) t in
    rw (and_left a (b && not c) t, and_left b (not c) s, le-ltb (length before) answer_bytes h, not-true c (and_right b (not c) s)) refl

-- the test of a row, with a pairing: for each equation the number of its unknown, or 0
abbrev row_test : Row → List ℕ → Bool
row_test r l =
    let codes = lent_code r.equations r.unknowns r.table in
    judged r && all_true (verdict_tests (λ e u. not (eqb (codes e u) 0)) (λ e u. codes e u - 1) l r)

holds : (r : Row) (l : List ℕ) → row_test r l ≡ true → Holds r
holds r l t before h =
    let codes = lent_code r.equations r.unknowns r.table in
    let rest = all_true (verdict_tests (λ e u. not (eqb (codes e u) 0)) (λ e u. codes e u - 1) l r) in
    let j = and_left (judged r) rest t in
    let z = not_refused r j before h in
    let w = limits r.equations r.unknowns (and_left (in_limits r.equations r.unknowns) _ j) in
    record {
      refused = λ n. absurd (n z);
      verdict = λ _. subst
          (λ (f : ℕ → ℕ → ℕ). Verdict r.equations r.unknowns (λ e u. not (eqb (f e u) 0)) (λ e u. f e u - 1) before r.number (bytes_of r before))
          (sym (codes_are r.equations r.unknowns r.table w.0.high w.1.high))
          (verdict (λ e u. not (eqb (codes e u) 0)) (λ e u. codes e u - 1) l r (and_right (judged r) rest t) before);
    }

abbrev table_test : List Row → List (List ℕ) → Bool
table_test [] ls = true
table_test (r ∷ rs) [] = false
table_test (r ∷ rs) (l ∷ ls) = row_test r l && table_test rs ls

every_row : (rs : List Row) (ls : List (List ℕ)) → table_test rs ls ≡ true → Every rs
every_row [] ls t = tt
every_row (r ∷ rs) [] t = absurd (true≢false (sym t))
every_row (r ∷ rs) (l ∷ ls) t = (holds r l (and_left (row_test r l) (table_test rs ls) t), every_row rs ls (and_right (row_test r l) (table_test rs ls) t))

-- a largest pairing of each row
pairings : List (List ℕ)
pairings =
    (3 ∷ 2 ∷ 1 ∷ [])
    ∷ (1 ∷ 2 ∷ [])
    ∷ (3 ∷ 1 ∷ 0 ∷ [])
    ∷ (1 ∷ [])
    ∷ (0 ∷ [])
    ∷ (1 ∷ 2 ∷ [])
    ∷ (2 ∷ 1 ∷ [])
    ∷ (1 ∷ 2 ∷ [])
    ∷ (1 ∷ 3 ∷ 2 ∷ [])
    ∷ []

pub checked_models : Every models
unfolding models pairings tab members
checked_models = every_row models pairings refl
