-- What is printed for a good card is what holds of its model: the numbers are taken off whole, and the strips are the lists of the analysis.
use mathlib.Core.Path.{◌≡◌, refl, ap, sym, ◌∙◌}
use mathlib.Core.Bool.{true, false, ◌&&◌}
use mathlib.Core.List.{List, [], ◌∷◌, ◌++◌, map, append_assoc}
use Prim.Native.Nat.{ℕ, zero, suc, ◌+◌, ◌-◌, ◌*◌, ◌≤◌, ◌<◌}
use native.Mathlib.Omega.{arith}
use lib.Dec.{ltb, eqb}
use lib.ListN.{length, get_or, take, drop, replicate, length-append, length-replicate, length-map}
use lib.Seq.{take_at, drop-append-add}
use borrow.Author.Tests.{eq-eqb, ne_eqb, le-ltb, eqb-true}
use Rattle.laws.proofs.Tab.{is_tab, copies_at}
use Rattle.laws.proofs.Tests.{test, clash, and_left, and_right, and_both}
use Rattle.table.specs.Model.{limit, well_sized, first_above, occurs_at, order_at, rows_of}
use Rattle.table.proofs.Model.{sized}
use Rattle.pairing.specs.Pairing.{Listed}
use Rattle.pairing.proofs.Sizes.{rank_one}
use Rattle.pairing.proofs.Lists.{listed_short}
use Rattle.pairing.proofs.Solve.{solvable_rank}
use Rattle.card.specs.Card as Read
use Rattle.card.specs.Card.{good}
use Rattle.card.proofs.Readable.{good_card}
use Rattle.analysis.specs.Outcome.{unused, strip, strips, answer_bytes, refusal, Singular, Solved, Reply, worked_index, worked_freedom}
use Rattle.analysis.proofs.Packed.{Six, reads_back}
use Rattle.analysis.proofs.Strips.{strip_length}
use Rattle.report.specs.Printed.{singular_lines, solvable_lines, PrintsModel, solvable, singular}
use Rattle.report.specs.Steps.{strip_in, used_in, singular_text, solvable_text, verdict_text}

-- ---- a strip is its list and unused places

at_front : (l : List ℕ) (k i : ℕ) → get_or (l ++ replicate k unused) i unused ≡ get_or l i unused
at_front [] k i = copies_at k unused i
at_front (x ∷ l) k zero = refl
at_front (x ∷ l) k (suc i) = at_front l k i

strip_is : (l : List ℕ) → length l ≤ limit → strip l ≡ l ++ replicate (limit - length l) unused
strip_is l h =
    sym (is_tab (l ++ replicate (limit - length l) unused) unused limit (λ i. get_or l i unused)
    (length-append l (replicate (limit - length l) unused) ∙ (let r = length-replicate {A = ℕ} (limit - length l) unused in omega arith))
    (λ i _. at_front l (limit - length l) i))

-- its first places are the list
strip_front : (l rest : List ℕ) (n : ℕ) → length l ≡ n → n ≤ limit → take n (strip l ++ rest) ≡ l
strip_front l rest n e h =
    ap (λ x. take n (x ++ rest)) (strip_is l (omega arith))
    ∙ ap (take n) (append_assoc l (replicate (limit - length l) unused) rest)
    ∙ take_at l (replicate (limit - length l) unused ++ rest) n e

-- its used places are the list, where that has no 255
used_list : (l : List ℕ) (k : ℕ) → ((i : ℕ) → i < length l → get_or l i 0 < limit) → used_in (map suc l ++ replicate k unused) ≡ map suc l
used_list [] zero h = refl
used_list [] (suc k) h = refl
used_list (x ∷ l) k h =
    let b : x < limit = h 0 (omega arith) in
    rw (ne_eqb (suc x) unused (λ z. omega arith)) (ap (λ m. suc x ∷ m) (used_list l k (λ i c. h (suc i) (omega arith))))

-- the strips behind the first
past : (l rest : List ℕ) (m : ℕ) → drop (limit + m) (strip l ++ rest) ≡ drop m rest
past l rest m =
    let z : limit + m ≡ length (strip l) + m = omega (arith, strip_length l) in
    ap (λ k. drop k (strip l ++ rest)) z ∙ drop-append-add (strip l) rest m

module _ (a b c d e rest : List ℕ) where
  answer : List ℕ
  answer = strips a b c d e ++ rest

  in_row : answer ≡ strip a ++ (strip b ++ (strip c ++ (strip d ++ (strip e ++ rest))))
  unfolding answer
  in_row = simp append_assoc

  from_second : drop (1 * limit) answer ≡ strip b ++ (strip c ++ (strip d ++ (strip e ++ rest)))
  from_second = ap (drop (1 * limit)) in_row ∙ past a (strip b ++ (strip c ++ (strip d ++ (strip e ++ rest)))) 0

  from_third : drop (2 * limit) answer ≡ strip c ++ (strip d ++ (strip e ++ rest))
  from_third =
      ap (drop (2 * limit)) in_row
      ∙ past a (strip b ++ (strip c ++ (strip d ++ (strip e ++ rest)))) limit
      ∙ past b (strip c ++ (strip d ++ (strip e ++ rest))) 0

  from_fourth : drop (3 * limit) answer ≡ strip d ++ (strip e ++ rest)
  from_fourth =
      ap (drop (3 * limit)) in_row
      ∙ past a (strip b ++ (strip c ++ (strip d ++ (strip e ++ rest)))) (2 * limit)
      ∙ past b (strip c ++ (strip d ++ (strip e ++ rest))) limit
      ∙ past c (strip d ++ (strip e ++ rest)) 0

  from_fifth : drop (4 * limit) answer ≡ strip e ++ rest
  from_fifth =
      ap (drop (4 * limit)) in_row
      ∙ past a (strip b ++ (strip c ++ (strip d ++ (strip e ++ rest)))) (3 * limit)
      ∙ past b (strip c ++ (strip d ++ (strip e ++ rest))) (2 * limit)
      ∙ past c (strip d ++ (strip e ++ rest)) limit
      ∙ past d (strip e ++ rest) 0

-- a strip of a list of members, read to the first unused place
used_members : {n : ℕ} {P : ℕ → Type 0} {l : List ℕ} → Listed n P l → (rest : List ℕ) → n ≤ limit → used_in (take limit (strip (map suc l) ++ rest)) ≡ map suc l
used_members {l = l} k rest h =
    ap used_in
    (take_at (strip (map suc l)) rest limit (strip_length (map suc l))
    ∙ strip_is (map suc l) (rw (length-map l suc) (omega (arith, listed_short k))))
    ∙ used_list l (limit - length (map suc l)) (λ i b. let c = (k.only i b).0 in omega arith)

-- ---- the two verdicts

module _ (name : List ℕ) (E U : ℕ) (t : List ℕ) {before after : List ℕ} {rank number : ℕ} (w : well_sized E U t ≡ true) where
  singular_says : (s : Singular E U (occurs_at (rows_of E U t)) rank before number after) → Six number 10 0 rank 0 0 0
      → verdict_text name E number after ≡ singular_lines name rank (map suc s.lists.surplus) (map suc s.lists.unfixed)
  unfolding singular_text answer
  singular_says s x =
      let m = sized E U t w in
      let rest = drop answer_bytes before in
      let a = map suc s.lists.surplus in
      let b = map suc s.lists.unfixed in
      let first : used_in (strip_in 0 limit after) ≡ a
      = ap (λ x. used_in (take limit x)) (s.holds ∙ in_row a b [] [] [] rest)
      ∙ used_members s.lists.all_surplus (strip b ++ (strip [] ++ (strip [] ++ (strip [] ++ rest)))) m.equations.high in
      let second : used_in (strip_in 1 limit after) ≡ b
      = ap (λ x. used_in (take limit (drop (1 * limit) x))) s.holds ∙ ap (λ x. used_in (take limit x)) (from_second a b [] [] [] rest)
      ∙ used_members s.lists.all_unfixed (strip [] ++ (strip [] ++ (strip [] ++ rest))) m.unknowns.high in
      rw (x.is_code, x.is_rank, first, second)

  solvable_says : (s : Solved E (occurs_at (rows_of E U t)) (order_at (rows_of E U t)) rank before number after)
      → Six number 0 0 rank (worked_index s.worked) (worked_freedom s.worked) s.worked.blocks
      → verdict_text name E number after
      ≡ solvable_lines name (worked_index s.worked) (worked_freedom s.worked) s.worked.counts s.worked.tops (map suc s.worked.partner)
      (map suc s.worked.order) s.worked.block
  unfolding solvable_text answer
  solvable_says s x =
      let k = s.worked in
      let m = sized E U t w in
      let high = m.equations.high in
      let rest = drop answer_bytes before in
      let a = k.counts in
      let b = k.tops in
      let c = map suc k.partner in
      let d = map suc k.order in
      let g = k.block in
      let first : strip_in 0 E after ≡ a
      = ap (take E) (s.holds ∙ in_row a b c d g rest)
      ∙ strip_front a (strip b ++ (strip c ++ (strip d ++ (strip g ++ rest)))) E k.sizes.0 high in
      let second : strip_in 1 E after ≡ b
      = ap (λ x. take E (drop (1 * limit) x)) s.holds ∙ ap (take E) (from_second a b c d g rest)
      ∙ strip_front b (strip c ++ (strip d ++ (strip g ++ rest))) E k.sizes.1 high in
      let third : strip_in 2 E after ≡ c
      = ap (λ x. take E (drop (2 * limit) x)) s.holds ∙ ap (take E) (from_third a b c d g rest)
      ∙ strip_front c (strip d ++ (strip g ++ rest)) E (length-map k.partner suc ∙ k.sizes.2) high in
      let fourth : strip_in 3 E after ≡ d
      = ap (λ x. take E (drop (3 * limit) x)) s.holds ∙ ap (take E) (from_fourth a b c d g rest)
      ∙ strip_front d (strip g ++ rest) E (length-map k.order suc ∙ k.sizes.3) high in
      let fifth : strip_in 4 E after ≡ g
      = ap (λ x. take E (drop (4 * limit) x)) s.holds ∙ ap (take E) (from_fifth a b c d g rest) ∙ strip_front g rest E k.sizes.4 high in
      rw (x.is_code, x.is_index, x.is_freedom, first, second, third, fourth, fifth)

-- ---- what is printed for a good card

-- the text of what the analysis hands back for a table
pub record Answered (name : List ℕ) (E U : ℕ) (table text : List ℕ) : Type 0 where
  pub number : ℕ
  pub answer : List ℕ
  pub reply : Reply E U table (replicate answer_bytes 0) number answer
  pub says : text ≡ verdict_text name E number answer

module _ (input : List ℕ) {name t : List ℕ} {E U : ℕ} (q : Read.judged input ≡ good name E U t) where
  well_sized_lem : well_sized E U t ≡ true
  well_sized_lem = let g = (good_card input name E U t q).fine in and_both g.limits g.sized

  -- its table is not refused by the analysis
  not_refused : refusal E U t answer_bytes ≡ 0
  not_refused =
      let g = (good_card input name E U t q).fine in
      let c : ltb (first_above t) (length t) ≡ false
      = le-ltb (first_above t) (length t) (let z = eqb-true (first_above t) (length t) g.codes in omega arith) in
      rw (g.limits, g.sized, c)

  -- that text is what is printed of the model
  pub answered_prints : {text : List ℕ} → Answered name E U t text → PrintsModel name E U (occurs_at (rows_of E U t)) (order_at (rows_of E U t)) text
  answered_prints a =
      let v = a.reply.verdict not_refused in
      test (eqb E U && eqb v.rank E)
      (λ b.
      let e = eqb-true E U (and_left (eqb E U) (eqb v.rank E) b) in
      let r = eqb-true v.rank E (and_right (eqb E U) (eqb v.rank E) b) in
      let s = v.solvable e r in
      solvable (solvable_rank.1 (e, rw r at v.ranked))
      (record { worked = s.worked; says = a.says ∙ solvable_says name E U t well_sized_lem s ((reads_back a.reply).solvable not_refused e r) }))
      (λ b.
      let n : E ≡ U → v.rank ≡ E → ⊥ = λ e r. clash (and_both (eq-eqb E U e) (eq-eqb v.rank E r)) b in
      singular (λ s. n (solvable_rank.0 s).0 (rank_one v.ranked (solvable_rank.0 s).1))
      (record {
        rank = v.rank;
        ranked = v.ranked;
        lists = (v.singular n).lists;
        says = a.says ∙ singular_says name E U t well_sized_lem (v.singular n) ((reads_back a.reply).singular not_refused n);
      }))
