-- From what the code holds to the outcome of a solvable model: arrays that are 0 beyond the last equation and their first n places are the same functions,
-- and the table of leading occurrences says what the definition says wherever it is asked.
use mathlib.Core.Path.{◌≡◌, refl, sym, ap, ◌∙◌, ap₂, subst, subst₂, subst₃, fun_ext}
use mathlib.Core.List.{List, [], ◌∷◌, ◌++◌, map}
use Prim.Native.Nat.{ℕ, suc, ◌-◌, ◌<◌, ◌≤◌}
use native.Mathlib.Omega.{arith}
use lib.Dec.{ltb}
use lib.ListN.{length, take, drop, length-take, length-map, get_or-map, get_or-eq_default}
use lib.Seq.{get_or-take, length-take-le}
use borrow.Author.Tests.{ltb-true}
use Rattle.laws.proofs.Tests.{test, tests}
use Rattle.table.specs.Model.{limit, occurs_at, order_at}
use Rattle.analysis.specs.declared.solvable.Solution.{Solution}
use Rattle.pairing.specs.Pairing.{Rel}
use Rattle.pairing.specs.First.{Partners, First}
use Rattle.pairing.specs.Handed.{partner_of}
use Rattle.counts.specs.Fit.{Least, leading, index_of, freedom_of}
use Rattle.counts.specs.Work.{leading_at, leading_rows}
use Rattle.laws.specs.Tab.{number_at}
use Rattle.counts.proofs.Work.{rows_lead}
use Rattle.blocks.specs.Blocks.{needs_at, Placed}
use Rattle.blocks.specs.Handed.{partner_at}
use Rattle.analysis.specs.Outcome.{packed, strips, answer_bytes, Solved}
use Rattle.analysis.specs.Written.{places_of, SolutionIs}
use Rattle.table.specs.Number.{equation_number, unknown_number, or_zero, equation_at}
use Rattle.std.specs.declared.option.Option.TheVariants.{None}

-- the first n of a list that is 0 beyond them
front_is : (n : ℕ) (l : List ℕ) → ((i : ℕ) → n ≤ i → number_at l i ≡ 0) → number_at (take n l) ≡ number_at l
front_is n l beyond = fun_ext (λ i. test (ltb i n)
    (λ t. get_or-take n l i 0 (ltb-true i n t))
    (λ t. get_or-eq_default (take n l) 0 (omega (arith, tests, length-take n l)) ∙ sym (beyond i (omega (arith, tests)))))

places_are : (n : ℕ) (l : List ℕ) → ((i : ℕ) → n ≤ i → number_at l i ≡ 0) → number_at (places_of (take n l)) ≡ (λ i. number_at l i - 1)
places_are n l beyond = fun_ext (λ i. get_or-map (λ x. x - 1) (take n l) i 0 ∙ ap (λ (f : ℕ → ℕ). f i - 1) (front_is n l beyond))

-- numbers from 1 on, taken to places and back
back_again : (l : List ℕ) → ((i : ℕ) → i < length l → 1 ≤ number_at l i) → map suc (places_of l) ≡ l
back_again [] h = refl
back_again (x ∷ l) h =
    let a = h 0 (omega arith) in
    let b : suc (x - 1) ≡ x = omega arith in
    let r = back_again l (λ i k. h (suc i) (omega arith)) in
    cc

-- a list with a number from 1 on at n places has as many
enough : (n : ℕ) (l : List ℕ) → ((i : ℕ) → i < n → 1 ≤ number_at l i) → n ≤ length l
enough n l h = test (ltb (length l) n)
    (λ t. let a = h (length l) (ltb-true (length l) n t) in let b = get_or-eq_default l 0 {n = length l} (omega arith) in absurd (omega arith))
    (λ t. omega (arith, tests))

front_back : (n : ℕ) (l : List ℕ) → ((i : ℕ) → i < n → 1 ≤ number_at l i) → map suc (places_of (take n l)) ≡ take n l
front_back n l h = back_again (take n l) (λ i b.
    let e = length-take-le n l (enough n l h) in
    let c : i < n = omega arith in
    rw (get_or-take n l i 0 c) (h i c))

front_places : (n : ℕ) (l : List ℕ) → ((i : ℕ) → i < n → 1 ≤ number_at l i) → length (places_of (take n l)) ≡ n
front_places n l h = length-map (take n l) (λ x. x - 1) ∙ length-take-le n l (enough n l h)

-- partners over one relation are partners over another that agrees with it
partners_alike : {n : ℕ} {A B : Rel} {p : ℕ → ℕ} → ((e u : ℕ) → e < n → u < n → A e u ≡ B e u) → Partners n n A p → Partners n n B p
partners_alike {p = p} same k = record { col = k.col; fits = λ e h. sym (same e (p e) h (k.col e h)) ∙ k.fits e h; own = k.own }

first_alike : {n : ℕ} {A B : Rel} {p : ℕ → ℕ} → ((e u : ℕ) → e < n → u < n → A e u ≡ B e u) → First n n A p → First n n B p
first_alike same f = record {
  ok = partners_alike same f.ok;
  low = λ q k. f.low q (partners_alike (λ e u h b. sym (same e u h b)) k);
}

-- and the needs are the same
needs_alike : (n : ℕ) {A B : Rel} (p : ℕ → ℕ) → ((e u : ℕ) → e < n → u < n → A e u ≡ B e u) → ((e : ℕ) → e < n → p e < n) → needs_at n A p ≡ needs_at n B p
needs_alike n {A} {B} p same col = fun_ext (λ f. fun_ext (λ g. test (ltb f n)
    (λ t. test (ltb g n)
    (λ s. rw (t, s, same f (p g) (ltb-true f n t) (col g (ltb-true g n s))) refl)
    (λ s. rw (t, s) refl))
    (λ t. rw t refl)))

module _ (n : ℕ) (t : List (List ℕ)) (w : Solution) (s : SolutionIs n t w) where
  alike : (e u : ℕ) → e < n → u < n → occurs_at (leading_rows n t w.counts w.tops) e u ≡ leading_at t w.counts w.tops e u
  alike = rows_lead n t w.counts w.tops s.within

  -- the arrays' first n places, as functions
  counts_are : number_at w.counts ≡ number_at (take n w.counts)
  counts_are = sym (front_is n w.counts s.counts_beyond)

  tops_are : number_at w.tops ≡ number_at (take n w.tops)
  tops_are = sym (front_is n w.tops s.tops_beyond)

  block_is : number_at w.block ≡ number_at (take n w.block)
  block_is = sym (front_is n w.block s.placed.no_block)

  unknown_at_lem : (e : ℕ) → number_at (map (or_zero unknown_number) w.partners) e ≡ partner_of w.partners e
  unknown_at_lem e = get_or-map (or_zero unknown_number) w.partners e None

  equation_at_lem : (i : ℕ) → number_at (map (or_zero equation_number) w.order) i ≡ equation_at w.order i
  equation_at_lem i = get_or-map (or_zero equation_number) w.order i None

  partner_is : partner_at w.partners ≡ number_at (places_of (take n (map (or_zero unknown_number) w.partners)))
  partner_is = fun_ext (λ e. ap (λ x. x - 1) (sym (unknown_at_lem e)))
      ∙ sym (places_are n (map (or_zero unknown_number) w.partners) (λ e h. unknown_at_lem e ∙ s.first.beyond e h))

  order_is : (λ i. equation_at w.order i - 1) ≡ number_at (places_of (take n (map (or_zero equation_number) w.order)))
  order_is = fun_ext (λ i. ap (λ x. x - 1) (sym (equation_at_lem i)))
      ∙ sym (places_are n (map (or_zero equation_number) w.order) (λ i h. equation_at_lem i ∙ s.placed.no_equation i h))

  firsts : First n n (leading_at t w.counts w.tops) (partner_at w.partners)
  firsts = first_alike alike s.first.first

  places : Placed n (needs_at n (leading_at t w.counts w.tops) (partner_at w.partners)) (λ i. equation_at w.order i - 1) (number_at w.block) w.blocks
  places = subst (λ (R : Rel). Placed n R (λ i. equation_at w.order i - 1) (number_at w.block) w.blocks)
      (needs_alike n (partner_at w.partners) alike s.first.first.ok.col) s.placed.placed

  abbrev lead : (ℕ → ℕ) → (ℕ → ℕ) → Rel
  lead = leading (occurs_at t) (order_at t)

  partner_from_one : (e : ℕ) → e < n → 1 ≤ number_at (map (or_zero unknown_number) w.partners) e
  partner_from_one e h = rw (unknown_at_lem e) (s.first.numbered e h)

  order_from_one : (i : ℕ) → i < n → 1 ≤ number_at (map (or_zero equation_number) w.order) i
  order_from_one i h = rw (equation_at_lem i) (s.placed.numbers i h)

  long : (l : List ℕ) → length l ≡ limit → length (take n l) ≡ n
  long l e = let few = s.within in length-take-le n l (omega arith)

  pub is_solved : (before : List ℕ) {number : ℕ} {after : List ℕ}
      → (length w.counts ≡ limit) × (length w.tops ≡ limit) × (length w.block ≡ limit)
      → number ≡ packed 0 0 n w.index w.freedom w.blocks
      → after ≡ strips (take n w.counts) (take n w.tops) (take n (map (or_zero unknown_number) w.partners)) (take n (map (or_zero equation_number) w.order)) (take n w.block)
      ++ drop answer_bytes before
      → Solved n (occurs_at t) (order_at t) n before number after
  is_solved before (lc, lt, lb) q r = record {
    worked = record {
      counts = take n w.counts;
      tops = take n w.tops;
      partner = places_of (take n (map (or_zero unknown_number) w.partners));
      order = places_of (take n (map (or_zero equation_number) w.order));
      block = take n w.block;
      blocks = w.blocks;
      sizes = (
        long w.counts lc,
        long w.tops lt,
        front_places n (map (or_zero unknown_number) w.partners) partner_from_one,
        front_places n (map (or_zero equation_number) w.order) order_from_one,
        long w.block lb,
      );
      least = subst₂ (λ (c d : ℕ → ℕ). Least n n (occurs_at t) (order_at t) c d) counts_are tops_are s.least;
      first = subst₃ (λ (c d p : ℕ → ℕ). First n n (lead c d) p) counts_are tops_are partner_is firsts;
      placed = subst₃ (λ (c d p : ℕ → ℕ). Placed n (needs_at n (lead c d) p) (number_at (places_of (take n (map (or_zero equation_number) w.order)))) (number_at (take n w.block)) w.blocks)
          counts_are tops_are partner_is
          (subst₂ (λ (o b : ℕ → ℕ). Placed n (needs_at n (leading_at t w.counts w.tops) (partner_at w.partners)) o b w.blocks) order_is block_is places);
    };
    says = q ∙ ap₂ (λ (i f : ℕ). packed 0 0 n i f w.blocks) (s.is_index ∙ ap (λ (c : ℕ → ℕ). index_of n c) counts_are)
        (s.is_freedom ∙ ap₂ (λ (c d : ℕ → ℕ). freedom_of n n c d) counts_are tops_are);
    holds = r ∙ ap₂ (λ (p o : List ℕ). strips (take n w.counts) (take n w.tops) p o (take n w.block) ++ drop answer_bytes before)
        (sym (front_back n (map (or_zero unknown_number) w.partners) partner_from_one))
        (sym (front_back n (map (or_zero equation_number) w.order) order_from_one));
  }
