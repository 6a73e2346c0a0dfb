-- How the search over the table of leading occurrences serves the raising: the table says what the definition says, a search that found nothing is stuck in the sense of
-- proofs/Raising, and what is kept while the counts are raised holds at the start, after a raise, after a search that found, and gives the answer at the end.
use mathlib.Core.Path.{◌≡◌, refl, sym, ◌∙◌, ap, fun_ext}
use mathlib.Core.Bool.{Bool, true, false, not, ◌&&◌}
use mathlib.Core.List.{List, []}
use Prim.Native.Nat.{ℕ, suc, ◌-◌, ◌<◌, ◌≤◌}
use native.Mathlib.Omega.{arith}
use lib.Dec.{ltb, eqb}
use lib.ListN.{replicate}
use borrow.Author.Tests.{lt-ltb, le-ltb, ltb-true, ltb-false, eqb-true}
use Rattle.laws.specs.Count.{bit, sum}
use Rattle.laws.specs.Marks.{marked}
use Rattle.laws.specs.Tab.{tab, pick, number_at}
use Rattle.laws.proofs.Tests.{test, either, given, clash, tests, not_true, and_left, and_right}
use Rattle.laws.proofs.Sum.{bit_false}
use Rattle.laws.proofs.Tab.{get_or_tab, get_or_past, copies_at}
use Rattle.table.specs.Model.{limit, code_at, occurs_at, order_at, square}
use Rattle.std.specs.declared.option.Option.{Option}
use Rattle.std.specs.declared.option.Option.TheVariants.{None}
use Rattle.table.specs.declared.number.Equation.{Equation}
use Rattle.table.specs.Number.{equation_number, or_zero}
use Rattle.table.proofs.Model.{square_at}
use Rattle.pairing.specs.Pairing.{Rel}
use Rattle.pairing.specs.Holders.{holder, held, Reach, Nothing}
use Rattle.pairing.proofs.Hall.{reach_within}
use Rattle.counts.specs.Fit.{leading}
use Rattle.counts.specs.Work.{top_order, high_at, tops_of, leading_at, leading_rows, Small, Pairable, Chosen}
use Rattle.counts.specs.Kept.{KeptIn, Paired, Went, raised_by}
use Rattle.counts.proofs.Over.{over_reach}
use Rattle.counts.proofs.Pairs.{over_paired}
use Rattle.counts.proofs.Raising.{AskedInVain, raised}
use Rattle.counts.proofs.Kept.{begin, count_few, raise, nearer, least, paired}

-- beyond the rows and columns of a square nothing occurs
square_in : (f : ℕ → ℕ → ℕ) (e u : ℕ) → occurs_at (square f) e u ≡ true → (e < limit) × (u < limit)
square_in f e u t = test (ltb e limit)
    (λ h. test (ltb u limit) (λ k. (ltb-true e limit h, ltb-true u limit k))
    (λ k. nothing (rw (get_or_tab limit (λ x. tab limit (f x)) e [] (ltb-true e limit h)) (get_or_past limit (f e) u 0 (omega (arith, tests))))))
    (λ h. nothing (rw (get_or_past limit (λ x. tab limit (f x)) e [] (omega (arith, tests)))))
  where
    nothing : {A : Type 0} → code_at (square f) e u ≡ 0 → A
    nothing z = clash t (rw z)

-- a code of 1 and 0 occurs where it is 1
occurs_bit : (b : Bool) → not (eqb (bit b) 0) ≡ b
occurs_bit true = refl
occurs_bit false = refl

-- the table of leading occurrences says what the definition says, and nothing outside n × n
module _ (n : ℕ) (t : List (List ℕ)) (counts tops : List ℕ) (small : n ≤ limit) where
  rows_are : (e u : ℕ) → e < limit → u < limit → occurs_at (leading_rows n t counts tops) e u ≡ (ltb e n && (ltb u n && leading_at t counts tops e u))
  rows_are e u h k =
      let f : ℕ → ℕ → ℕ = λ e u. bit (ltb e n && (ltb u n && leading_at t counts tops e u)) in
      ap (λ (x : ℕ). not (eqb x 0)) (square_at f e u h k) ∙ occurs_bit (ltb e n && (ltb u n && leading_at t counts tops e u))

  pub rows_lead : (e u : ℕ) → e < n → u < n → occurs_at (leading_rows n t counts tops) e u ≡ leading_at t counts tops e u
  rows_lead e u h k = rows_are e u (omega arith) (omega arith) ∙ rw (lt-ltb e n h, lt-ltb u n k)

  pub rows_within : (e u : ℕ) → occurs_at (leading_rows n t counts tops) e u ≡ true → (e < n) × (u < n)
  rows_within e u o =
      given (square_in (λ e u. bit (ltb e n && (ltb u n && leading_at t counts tops e u))) e u o) (λ (h, k).
      let both = sym (rows_are e u h k) ∙ o in
      let rest = and_right (ltb e n) (ltb u n && leading_at t counts tops e u) both in
      (ltb-true e n (and_left (ltb e n) (ltb u n && leading_at t counts tops e u) both), ltb-true u n (and_left (ltb u n) (leading_at t counts tops e u) rest)))

-- a list that has f below n and 0 from there on
picked_at : (n : ℕ) (f : ℕ → ℕ) → n ≤ limit → (i : ℕ) → number_at (tab limit (λ i. pick (ltb i n) (f i) 0)) i ≡ pick (ltb i n) (f i) 0
picked_at n f small i = test (ltb i limit)
    (λ h. get_or_tab limit (λ i. pick (ltb i n) (f i) 0) i 0 (ltb-true i limit h))
    (λ h. get_or_past limit (λ i. pick (ltb i n) (f i) 0) i 0 (omega (arith, tests)) ∙ rw (le-ltb i n (omega (arith, tests))))

-- the tops as the code has them
pub tops_at : (n : ℕ) (t : List (List ℕ)) (counts : List ℕ) → n ≤ limit → (u : ℕ) → u < n → number_at (tops_of n t counts) u ≡ high_at n t counts u
tops_at n t counts small u h = picked_at n (high_at n t counts) small u ∙ rw (lt-ltb u n h)

tops_past : (n : ℕ) (t : List (List ℕ)) (counts : List ℕ) → n ≤ limit → (u : ℕ) → n ≤ u → number_at (tops_of n t counts) u ≡ 0
tops_past n t counts small u h = picked_at n (high_at n t counts) small u ∙ rw (le-ltb u n h)

-- the leading occurrences of the counts with their tops, in the table and by the definition
abbrev rows_of : ℕ → List (List ℕ) → List ℕ → Rel
rows_of n t counts = occurs_at (leading_rows n t counts (tops_of n t counts))

abbrev lead_of : ℕ → List (List ℕ) → List ℕ → Rel
lead_of n t counts = leading (occurs_at t) (order_at t) (number_at counts) (high_at n t counts)

module _ (n : ℕ) (t : List (List ℕ)) (counts : List ℕ) (small : n ≤ limit) where
  same : (e u : ℕ) → e < n → u < n → rows_of n t counts e u ≡ lead_of n t counts e u
  same e u h k = rows_lead n t counts (tops_of n t counts) small e u h k ∙ rw (tops_at n t counts small u k)

  to_lead : (e u : ℕ) → rows_of n t counts e u ≡ true → lead_of n t counts e u ≡ true
  to_lead e u o = given (rows_within n t counts (tops_of n t counts) small e u o) (λ (h, k). sym (same e u h k) ∙ o)

  -- a search that found nothing
  pub stuck : (f : ℕ) (holders : List (Option Equation)) (asked : List Bool) → f < n → KeptIn n t f counts holders
      → Nothing n (rows_of n t counts) f (replicate limit false) asked holders → AskedInVain n n (lead_of n t counts) (held holders) f (marked asked)
  stuck f holders asked b p none = record {
    asker = b;
    free = p.upto.waiting f (omega arith);
    self = none.self;
    reached = reached;
    closed = λ e u m h l. none.closed e u m (λ before. clash before (copies_at limit false e)) h
        (same e u (reach_within p.upto.pairs b (reached e m)) h ∙ l);
  }
    where
      reached : (e : ℕ) → marked asked e ≡ true → Reach (lead_of n t counts) (held holders) f e
      reached e m = either (none.reached e m) (λ before. clash before (copies_at limit false e)) (λ r. over_reach to_lead r)

  -- what is paired, over the table of leading occurrences, and back
  pub to_paired : (f : ℕ) (holders : List (Option Equation)) → KeptIn n t f counts holders → Paired n (rows_of n t counts) f (held holders)
  to_paired f holders p = over_paired p.upto (λ e u h k l. same e u h k ∙ l)

  pub from_paired : (f f' : ℕ) (holders holders' : List (Option Equation)) → KeptIn n t f counts holders → Paired n (rows_of n t counts) f' (held holders')
      → KeptIn n t f' counts holders'
  from_paired f f' holders holders' p q = record { upto = over_paired q (λ e u h k l. to_lead e u l); low = p.low; room = p.room; beyond = p.beyond }

-- what a raise brings nearer: the tops' sum to the counts' sum
abbrev Nearer : ℕ → List (List ℕ) → List ℕ → List ℕ → Type 0
Nearer n t counts next = sum n (high_at n t next) - sum n (number_at next) < sum n (high_at n t counts) - sum n (number_at counts)

module _ (n : ℕ) (t : List (List ℕ)) (can : Pairable n t) where
  pub orders : (e u : ℕ) → e < n → u < n → order_at t e u ≤ top_order
  orders e u h k = let c = can.bounded.codes e u h k in omega arith

  -- order + count fits a byte all the way
  pub small_in : (f : ℕ) (counts : List ℕ) (holders : List (Option Equation)) → KeptIn n t f counts holders → Small n t counts
  small_in f counts holders p = record {
    bounded = can.bounded;
    few = λ e h. let k = count_few n (occurs_at t) (order_at t) can.pairs can.full f (number_at counts) (held holders) p e h in
        let w = can.bounded.equations in omega arith;
  }

  -- before the first search
  pub begin_in : Small n t (replicate limit 0) × KeptIn n t 0 (replicate limit 0) (replicate limit None)
  begin_in = (small_in 0 (replicate limit 0) nobody kept, kept)
    where
      nobody : List (Option Equation)
      nobody = replicate limit None

      kept : KeptIn n t 0 (replicate limit 0) nobody
      kept = begin n (occurs_at t) (order_at t) (number_at (replicate limit 0)) (held nobody) orders (λ e. copies_at {A = ℕ} limit 0 e)
          (λ e u m.
          let z : holder nobody u ≡ 0 = ap (or_zero equation_number) (copies_at {A = Option Equation} limit None u) in
          let k = eqb-true (holder nobody u) (suc e) m in
          omega arith)

  -- one raise of the list
  module _ (f : ℕ) (counts : List ℕ) (holders : List (Option Equation)) (asked : List Bool) (b : f < n) (p : KeptIn n t f counts holders)
      (none : Nothing n (rows_of n t counts) f (replicate limit false) asked holders) where
    raised_list : number_at (raised_by n counts asked) ≡ raised (number_at counts) (marked asked)
    raised_list = fun_ext at_each
      where
        at_each : (e : ℕ) → number_at (raised_by n counts asked) e ≡ raised (number_at counts) (marked asked) e
        at_each e = picked_at n (raised (number_at counts) (marked asked)) can.bounded.equations e ∙ test (ltb e n) (λ h. rw h)
            (λ h. let k = ltb-false e n h in
            let s = stuck n t counts can.bounded.equations f holders asked b p none in
            let out : marked asked e ≡ false = not_true (λ m. let r = reach_within p.upto.pairs b (s.reached e m) in absurd (omega arith)) in
            let z = p.beyond e k in
            let o = bit_false out in
            rw h (omega arith))

    pub raise_in : KeptIn n t f (raised_by n counts asked) holders × Nearer n t counts (raised_by n counts asked)
    raise_in =
        let vain = stuck n t counts can.bounded.equations f holders asked b p none in
        rw raised_list (
          raise n (occurs_at t) (order_at t) can.pairs can.full f (number_at counts) (held holders) (marked asked) p vain,
          nearer n (occurs_at t) (order_at t) can.pairs can.full f (number_at counts) (held holders) (marked asked) p vain,
        )

  -- a pairing that went on and stopped, and then a raise
  pub risen : (f : ℕ) (counts : List ℕ) (holders : List (Option Equation)) → KeptIn n t f counts holders
      → (f' : ℕ) (holders' : List (Option Equation)) (asked : List Bool) → f' < n → Went n (rows_of n t counts) f' holders' asked
      → Small n t (raised_by n counts asked) × KeptIn n t f' (raised_by n counts asked) holders' × Nearer n t counts (raised_by n counts asked)
  risen f counts holders p f' holders' asked b went =
      let r = raise_in f' counts holders' asked b (from_paired n t counts can.bounded.equations f f' holders holders' p went.upto) (went.stopped b) in
      (small_in f' (raised_by n counts asked) holders' r.0, r.0, r.1)

  -- after the last search
  pub answer : (f : ℕ) (counts : List ℕ) (holders all : List (Option Equation)) → KeptIn n t f counts holders → Paired n (rows_of n t counts) n (held all)
      → Chosen n t counts (tops_of n t counts) all
  answer f counts holders all kept on =
      let p = from_paired n t counts can.bounded.equations f n holders all kept on in
      let tops = tops_at n t counts can.bounded.equations in
      record {
        least = least n (occurs_at t) (order_at t) (number_at counts) (number_at (tops_of n t counts)) (held all) p tops;
        paired = paired n (occurs_at t) (order_at t) (number_at counts) (number_at (tops_of n t counts)) (held all) p tops;
        counts_beyond = p.beyond;
        tops_beyond = tops_past n t counts can.bounded.equations;
      }
