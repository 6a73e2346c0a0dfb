-- There is one outcome for each input. The rank is one, so two verdicts agree on solvable or singular; the least counts and their tops are one,
-- so are the leading occurrences, the first partners over them and the placing; the two lists of a singular model are one each.
use mathlib.Core.Path.{◌≡◌, sym, ◌∙◌}
use mathlib.Core.List.{List}
use Prim.Native.Nat.{ℕ, ◌<◌}
use lib.Dec.{eqb}
use lib.ListN.{length}
use lib.Seq.{ext_get_or}
use borrow.Author.Tests.{eqb-true, eqb-false}
use Rattle.laws.proofs.Tests.{test}
use Rattle.pairing.specs.Pairing.{Rel}
use Rattle.pairing.specs.First.{First}
use Rattle.pairing.proofs.Sizes.{rank_one}
use Rattle.pairing.proofs.Lists.{listed_one}
use Rattle.pairing.proofs.Choice.{first_one}
use Rattle.counts.specs.Fit.{leading}
use Rattle.laws.specs.Tab.{number_at}
use Rattle.counts.proofs.Fit.{one_count, one_top}
use Rattle.blocks.specs.Blocks.{needs_at, Placed}
use Rattle.blocks.proofs.Placed.{one_placing, one_number}
use Rattle.analysis.specs.Outcome.{refusal, Worked, Solved, Lists, Singular, Verdict, Reply}

pub record SameWorked {n : ℕ} {edge : Rel} {ord : ℕ → ℕ → ℕ} (a b : Worked n edge ord) : Type 0 where
  pub counts : a.counts ≡ b.counts
  pub tops : a.tops ≡ b.tops
  pub partner : a.partner ≡ b.partner
  pub order : a.order ≡ b.order
  pub block : a.block ≡ b.block
  pub blocks : a.blocks ≡ b.blocks

-- lists of one length that agree below it are one
same_list : (n : ℕ) (l l' : List ℕ) → length l ≡ n → length l' ≡ n → ((i : ℕ) → i < n → number_at l i ≡ number_at l' i) → l ≡ l'
same_list n l l' a b h = ext_get_or 0 l l' (a ∙ sym b) (λ i w. h i (rw a at w))

module _ {n : ℕ} {edge : Rel} {ord : ℕ → ℕ → ℕ} (a b : Worked n edge ord) where
  counts_one : a.counts ≡ b.counts
  counts_one = same_list n a.counts b.counts a.sizes.0 b.sizes.0
      (one_count n n edge ord (number_at a.counts) (number_at a.tops) (number_at b.counts) (number_at b.tops) a.least b.least)

  tops_one : a.tops ≡ b.tops
  tops_one = same_list n a.tops b.tops a.sizes.1 b.sizes.1
      (one_top n edge ord (number_at a.counts) (number_at a.tops) (number_at b.counts) (number_at b.tops) a.least b.least)

  first_too : First n n (leading edge ord (number_at a.counts) (number_at a.tops)) (number_at b.partner)
  first_too = rw (counts_one, tops_one) b.first

  partner_one : a.partner ≡ b.partner
  partner_one = same_list n a.partner b.partner a.sizes.2 b.sizes.2 (first_one a.first first_too)

  placed_too : Placed n (needs_at n (leading edge ord (number_at a.counts) (number_at a.tops)) (number_at a.partner))
      (number_at b.order) (number_at b.block) b.blocks
  placed_too = rw (counts_one, tops_one, partner_one) b.placed

  -- any two answers to one model have the same lists and the same number of blocks
  pub worked_one : SameWorked a b
  worked_one =
      let same = one_placing a.placed placed_too in
      record {
        counts = counts_one;
        tops = tops_one;
        partner = partner_one;
        order = same_list n a.order b.order a.sizes.3 b.sizes.3 same.order;
        block = same_list n a.block b.block a.sizes.4 b.sizes.4 same.block;
        blocks = one_number a.placed placed_too;
      }

solved_one : {n : ℕ} {edge : Rel} {ord : ℕ → ℕ → ℕ} {rank number number' : ℕ} {before after after' : List ℕ}
    → Solved n edge ord rank before number after → Solved n edge ord rank before number' after' → (number ≡ number') × (after ≡ after')
solved_one a b =
    let s = worked_one a.worked b.worked in
    (a.says ∙ (rw (s.counts, s.tops, s.blocks)) ∙ sym b.says, a.holds ∙ (rw (s.counts, s.tops, s.partner, s.order, s.block)) ∙ sym b.holds)

-- and any two pairs of lists of one model are the same
pub lists_one : {E U : ℕ} {edge : Rel} (a b : Lists E U edge) → (a.surplus ≡ b.surplus) × (a.unfixed ≡ b.unfixed)
lists_one a b = (listed_one a.all_surplus b.all_surplus, listed_one a.all_unfixed b.all_unfixed)

singular_one : {E U : ℕ} {edge : Rel} {rank number number' : ℕ} {before after after' : List ℕ}
    → Singular E U edge rank before number after → Singular E U edge rank before number' after' → (number ≡ number') × (after ≡ after')
singular_one a b =
    let s = lists_one a.lists b.lists in
    (a.says ∙ sym b.says, a.holds ∙ (rw (s.0, s.1)) ∙ sym b.holds)

verdict_one : {E U : ℕ} {edge : Rel} {ord : ℕ → ℕ → ℕ} {before : List ℕ} {number number' : ℕ} {after after' : List ℕ}
    → Verdict E U edge ord before number after → Verdict E U edge ord before number' after' → (number ≡ number') × (after ≡ after')
verdict_one {E} {U} a b =
    let r : b.rank ≡ a.rank = rank_one b.ranked a.ranked in
    test (eqb E U) (λ s. test (eqb a.rank E)
    (λ f. solved_one (a.solvable (eqb-true E U s) (eqb-true a.rank E f)) (rw r at (b.solvable (eqb-true E U s) (r ∙ eqb-true a.rank E f))))
    (λ f. singular_one (a.singular (λ _. eqb-false a.rank E f)) (rw r at (b.singular (λ _ q. eqb-false a.rank E f (sym r ∙ q))))))
    (λ s. singular_one (a.singular (λ q. absurd (eqb-false E U s q))) (rw r at (b.singular (λ q. absurd (eqb-false E U s q)))))

-- any two outcomes of one input agree, number and bytes
pub one_outcome : {E U : ℕ} {table before : List ℕ} {number number' : ℕ} {after after' : List ℕ}
    → Reply E U table before number after → Reply E U table before number' after' → (number ≡ number') × (after ≡ after')
one_outcome {E} {U} {table} {before} a b = test (eqb (refusal E U table (length before)) 0)
    (λ t. let z = eqb-true (refusal E U table (length before)) 0 t in verdict_one (a.verdict z) (b.verdict z))
    (λ t. let z = eqb-false (refusal E U table (length before)) 0 t in
    let x = a.refused z in let y = b.refused z in
    (x.says ∙ sym y.says, x.holds ∙ sym y.holds))
