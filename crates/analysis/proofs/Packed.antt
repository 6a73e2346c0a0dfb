-- The six numbers of every reply can be read back from the one: each is small enough for its own bytes, and the byte above them is 0.
-- Index and freedom are small since orders are at most 3, and there are no more blocks than equations.
use mathlib.Core.Path.{◌≡◌}
use mathlib.Core.List.{List}
use Prim.Native.Nat.{ℕ, zero, suc, ◌*◌, ◌/◌, ◌<◌, ◌≤◌}
use native.Mathlib.Omega.{arith}
use lib.Dec.{eqb, ltb}
use lib.ListN.{length}
use Rattle.laws.proofs.Tests.{test}
use Rattle.table.specs.Model.{in_limits, first_above, occurs_at, order_at, rows_of}
use Rattle.pairing.specs.Pairing.{Rel}
use Rattle.pairing.proofs.Sizes.{size_rows}
use Rattle.counts.specs.Work.{top_order}
use Rattle.laws.specs.Tab.{number_at}
use Rattle.counts.proofs.Fit.{freedom_high}
use Rattle.counts.proofs.Gap.{index_bound}
use Rattle.blocks.specs.Blocks.{before, Placed}
use Rattle.analysis.specs.Outcome.{packed, code_in, place_in, rank_in, index_in, freedom_in, blocks_in, answer_bytes, refusal, refusal_place, Reply, worked_index, worked_freedom}
use Rattle.analysis.proofs.Refusal.{accepted, judged_rows, place_fits}

-- what the caller takes off a number
pub record Six (number code place rank index freedom blocks : ℕ) : Type 0 where
  pub is_code : code_in number ≡ code
  pub is_place : place_in number ≡ place
  pub is_rank : rank_in number ≡ rank
  pub is_index : index_in number ≡ index
  pub is_freedom : freedom_in number ≡ freedom
  pub is_blocks : blocks_in number ≡ blocks
  pub rest : number / 72057594037927936 ≡ 0

unpacked : {number code place rank index freedom blocks : ℕ} → number ≡ packed code place rank index freedom blocks
    → code < 256 → place < 65536 → rank < 256 → index < 256 → freedom < 256 → blocks < 256 → Six number code place rank index freedom blocks
unpacked is a b c d e f = record {
  is_code = omega arith;
  is_place = omega arith;
  is_rank = omega arith;
  is_index = omega arith;
  is_freedom = omega arith;
  is_blocks = omega arith;
  rest = omega arith;
}

-- in each case they are the reply's own
pub record ReadsBack (E U : ℕ) (t behind : List ℕ) (number : ℕ) (after : List ℕ) (r : Reply E U t behind number after) : Type 0 where
  pub refused : (refusal E U t (length behind) ≡ 0 → ⊥)
      → Six number (refusal E U t (length behind)) (refusal_place (refusal E U t (length behind)) t) 0 0 0 0
  pub solvable : (z : refusal E U t (length behind) ≡ 0) (e : E ≡ U) (k : (r.verdict z).rank ≡ E)
      → Six number 0 0 (r.verdict z).rank (worked_index ((r.verdict z).solvable e k).worked) (worked_freedom ((r.verdict z).solvable e k).worked)
      ((r.verdict z).solvable e k).worked.blocks
  pub singular : (z : refusal E U t (length behind) ≡ 0) → (E ≡ U → (r.verdict z).rank ≡ E → ⊥) → Six number 10 0 (r.verdict z).rank 0 0 0

-- the refusals are 1 to 4
pub refusal_most : (E U : ℕ) (t : List ℕ) (room : ℕ) → refusal E U t room ≤ 4
refusal_most E U t room = test (in_limits E U)
    (λ a. test (eqb (length t) (E * U))
    (λ b. test (ltb room answer_bytes)
    (λ c. rw (a, b, c) (omega arith))
    (λ c. test (ltb (first_above t) (length t)) (λ d. rw (a, b, c, d) (omega arith)) (λ d. rw (a, b, c, d) (omega arith))))
    (λ b. rw (a, b) (omega arith)))
    (λ a. rw a (omega arith))

-- no more blocks than places
blocks_most : {m : ℕ} {R : Rel} {o b : ℕ → ℕ} {k : ℕ} → Placed m R o b k → k ≤ m
blocks_most {m} {R} {o} {b} p = let l = p.last in let w = upto m (omega arith) in omega arith
  where
    upto : (i : ℕ) → i ≤ m → before b i ≤ i
    upto zero h = omega arith
    upto (suc i) h = let r = upto i (omega arith) in let s = p.by_one i (omega arith) in omega arith

pub reads_back : {E U : ℕ} {t behind : List ℕ} {number : ℕ} {after : List ℕ} (r : Reply E U t behind number after) → ReadsBack E U t behind number after r
reads_back {E} {U} {t} {behind} r = record {
  refused = λ n.
      let m = refusal_most E U t (length behind) in
      let p = place_fits E U t (length behind) in
      unpacked (r.refused n).says (omega arith) (omega arith) (omega arith) (omega arith) (omega arith) (omega arith);
  solvable = λ z e k.
      let j = judged_rows (accepted E U t (length behind) z) in
      let few = j.equations in
      let s = ((r.verdict z).solvable e k).worked in
      let orders : (f u : ℕ) → f < E → u < E → order_at (rows_of E U t) f u ≤ top_order = λ f u h b. let q = j.codes f u h (omega arith) in omega arith in
      let i = index_bound E E top_order (occurs_at (rows_of E U t)) (order_at (rows_of E U t)) orders (number_at s.counts) (number_at s.tops) s.least in
      let f = freedom_high E top_order (occurs_at (rows_of E U t)) (order_at (rows_of E U t)) (number_at s.counts) (number_at s.tops) s.least.fit orders in
      let b = blocks_most s.placed in
      unpacked ((r.verdict z).solvable e k).says (omega arith) (omega arith) (omega arith) (omega arith) (omega arith) (omega arith);
  singular = λ z n.
      let few = (judged_rows (accepted E U t (length behind) z)).equations in
      let v = r.verdict z in
      let c = v.ranked.counts in
      let most = size_rows E U v.ranked.pairs in
      unpacked (v.singular n).says (omega arith) (omega arith) (omega arith) (omega arith) (omega arith) (omega arith);
}
