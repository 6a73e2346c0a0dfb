-- A good name and table, written and read again, come back the same.
use mathlib.Core.Path.{◌≡◌, refl, ap, sym, ◌∙◌}
use mathlib.Core.Bool.{Bool, true, false, ◌&&◌}
use mathlib.Core.List.{List, [], ◌∷◌, ◌++◌, append_assoc}
use Prim.Native.Nat.{ℕ, suc, ◌+◌, ◌-◌, ◌*◌, ◌/◌, ◌%◌, ◌≤◌, ◌<◌}
use native.Mathlib.Omega.{arith}
use lib.Dec.{leb, eqb}
use lib.ListN.{length, take, drop, set, replicate, length-append}
use lib.Seq.{set_at, take_at}
use borrow.Author.Tests.{eq-eqb, eqb-true, eqb-false, le-leb, leb-true}
use Rattle.laws.proofs.Tests.{test, and_left, and_right, and_both}
use Rattle.table.specs.Model.{limit, top_code, counted_in, in_limits, first_above}
use Rattle.table.proofs.Model.{limits}
use Rattle.card.specs.Text.{LF, comma, rig_key, equations_key, unknowns_key, occurs_key, end_key, dec, Lines, none, line, lines_of}
use Rattle.std.specs.List.{list_all}
use Rattle.card.specs.Entry.{occurrence, name_byte, entry_of}
use Rattle.card.specs.Card.{good, rig_of, count_said, count_of, in_range, not_after, cell, collected, list_of, headed, from_rig, judged, line_of, occurs_lines}
use Rattle.card.specs.Card.{occurrences, card_of}
use Rattle.std.specs.Prelude.{Some, Ok}
use Rattle.card.specs.Promise.{WriteGood}
use Rattle.card.specs.declared.entry.Entry.TheVariants.{Occurs, End}
use Rattle.std.proofs.lemmas.List.Sums.{count_by-le-length}
use Rattle.card.proofs.WriteLaws.{occurrences_count}
use Rattle.card.proofs.Lines.{value_dec, entry_occurs, entry_ended, lines_of_lem, rig_clear, value_clear, occurs_clear}
use Rattle.card.proofs.Order.{cell_of, pair_at, Behind, behind_none, behind_some, behind_more, behind_after}
use Rattle.card.proofs.ListLaws.{cells_within}

-- ---- codes and their number

abbrev pub small : ℕ → Bool
small x = leb x top_code

-- no code above 4: every one is at most 4
pub codes_small : (t : List ℕ) → eqb (first_above t) (length t) ≡ true → list_all small t ≡ true
codes_small [] h = refl
codes_small (x ∷ t) h =
    test (small x)
    (λ s. let e : suc (first_above t) ≡ suc (length t) = eqb-true (suc (first_above t)) (suc (length t)) (rw s at h) in
    and_both s (codes_small t (eq-eqb (first_above t) (length t) (omega arith))))
    (λ s. let e : 0 ≡ suc (length t) = eqb-true 0 (suc (length t)) (rw s at h) in absurd (omega arith))

pub small_codes : (t : List ℕ) → list_all small t ≡ true → eqb (first_above t) (length t) ≡ true
small_codes [] h = refl
small_codes (x ∷ t) h =
    let e = eqb-true (first_above t) (length t) (small_codes t (and_right (small x) (list_all small t) h)) in
    rw (and_left (small x) (list_all small t) h) (eq-eqb (suc (first_above t)) (suc (length t)) (omega arith))

pub few : (t : List ℕ) → occurrences t ≤ length t
few t = rw (occurrences_count t) (count_by-le-length _ t)

-- ---- the occurs lines and the end line

module _ (name : List ℕ) (E U : ℕ) where
  collected_occurs : (n e' u' at : ℕ) (t l : List ℕ) (rest : Lines) {e u k : ℕ} → entry_of l ≡ Some (Occurs (occurrence e u k)) → in_range E U e u k ≡ true → not_after e u e' u' ≡ false
      → collected name E U n e' u' t at (line l rest) ≡ collected name E U (n + 1) e u (set t (cell U e u) (k + 1)) (at + length l + 1) rest
  collected_occurs n e' u' at t l rest p q r = rw (p, q, r)

  collected_end : (n e' u' at N : ℕ) (t l : List ℕ) → entry_of l ≡ Some (End N) → N ≡ n → collected name E U n e' u' t at (line l none) ≡ good name E U t
  collected_end n e' u' at N t l p q = rw (p, eq-eqb N n q)

  -- the text of the codes r from byte c on
  unfoldable pub rest_of : ℕ → List ℕ → ℕ → List ℕ
  rest_of c r N = occurs_lines U c r ++ line_of (end_key ++ dec N)

  -- a code 0 has no line, any other has its own
  pub rest_none : (c x : ℕ) (r : List ℕ) (N : ℕ) → eqb x 0 ≡ true → rest_of c (x ∷ r) N ≡ rest_of (c + 1) r N
  unfolding rest_of
  rest_none c x r N h = rw h

  pub rest_some : (c x : ℕ) (r : List ℕ) (N : ℕ) → eqb x 0 ≡ false
      → rest_of c (x ∷ r) N ≡ (occurs_key ++ dec (c / U + 1) ++ comma ∷ dec (c % U + 1) ++ comma ∷ dec (x - 1)) ++ LF ∷ rest_of (c + 1) r N
  unfolding rest_of
  rest_some c x r N h =
      let l = occurs_key ++ dec (c / U + 1) ++ comma ∷ dec (c % U + 1) ++ comma ∷ dec (x - 1) in
      rw h (append_assoc (line_of l) (occurs_lines U (c + 1) r) (line_of (end_key ++ dec N)) ∙ append_assoc l (LF ∷ [])
      (occurs_lines U (c + 1) r ++ line_of (end_key ++ dec N)))

  -- a byte of the table whose code is 0 is passed over
  zero_step : (p r : List ℕ) (c x N n e' u' at : ℕ) → eqb x 0 ≡ true
      → collected name E U n e' u' ((p ++ 0 ∷ []) ++ replicate (length r) 0) at (lines_of (rest_of (c + 1) r N)) ≡ good name E U ((p ++ 0 ∷ []) ++ r)
      → collected name E U n e' u' (p ++ 0 ∷ replicate (length r) 0) at (lines_of (rest_of c (x ∷ r) N)) ≡ good name E U (p ++ x ∷ r)
  zero_step p r c x N n e' u' at h w =
      ap (λ t. collected name E U n e' u' t at (lines_of (rest_of c (x ∷ r) N))) (sym (append_assoc p (0 ∷ []) (replicate (length r) 0)))
      ∙ ap (λ s. collected name E U n e' u' ((p ++ 0 ∷ []) ++ replicate (length r) 0) at (lines_of s)) (rest_none c x r N h)
      ∙ w ∙ ap (good name E U) (append_assoc p (0 ∷ []) r ∙ ap (λ y. p ++ y ∷ r) (sym (eqb-true x 0 h)))

  -- any other has its line, which says its pair and its code
  some_step : (p r : List ℕ) (c x N n e' u' at : ℕ) → length p ≡ c → eqb x 0 ≡ false → c / U + 1 ≤ 9999 → c % U + 1 ≤ 9999 → x - 1 ≤ 9999
      → in_range E U (c / U + 1) (c % U + 1) (x - 1) ≡ true → not_after (c / U + 1) (c % U + 1) e' u' ≡ false
      → ((next : ℕ) → collected name E U (n + 1) (c / U + 1) (c % U + 1) ((p ++ x ∷ []) ++ replicate (length r) 0) next (lines_of (rest_of (c + 1) r N))
      ≡ good name E U ((p ++ x ∷ []) ++ r))
      → collected name E U n e' u' (p ++ 0 ∷ replicate (length r) 0) at (lines_of (rest_of c (x ∷ r) N)) ≡ good name E U (p ++ x ∷ r)
  some_step p r c x N n e' u' at lp h a b d ran aft w =
      let e = c / U + 1 in let u = c % U + 1 in let k = x - 1 in
      let l = occurs_key ++ dec e ++ comma ∷ dec u ++ comma ∷ dec k in
      let z : x - 1 + 1 ≡ x = let y = eqb-false x 0 h in omega arith in
      let stored : set (p ++ 0 ∷ replicate (length r) 0) (cell U e u) (k + 1) ≡ (p ++ x ∷ []) ++ replicate (length r) 0
      = ap (λ i. set (p ++ 0 ∷ replicate (length r) 0) i (k + 1)) (cell_of U c) ∙ ap (set (p ++ 0 ∷ replicate (length r) 0) c) z
      ∙ set_at p 0 (replicate (length r) 0) x c lp ∙ sym (append_assoc p (x ∷ []) (replicate (length r) 0)) in
      ap (collected name E U n e' u' (p ++ 0 ∷ replicate (length r) 0) at)
      (ap lines_of (rest_some c x r N h) ∙ lines_of_lem l (rest_of (c + 1) r N) (occurs_clear e u k a b d))
      ∙ collected_occurs n e' u' at (p ++ 0 ∷ replicate (length r) 0) l (lines_of (rest_of (c + 1) r N)) (entry_occurs e u k a b d) ran aft
      ∙ ap (λ t. collected name E U (n + 1) e u t (at + length l + 1) (lines_of (rest_of (c + 1) r N))) stored
      ∙ w (at + length l + 1) ∙ ap (good name E U) (append_assoc p (x ∷ []) r)

  -- a byte within the table, its code at most 4, has a pair in range
  in_range_lem : (c x : ℕ) → 1 ≤ U → c < E * U → small x ≡ true → in_range E U (c / U + 1) (c % U + 1) (x - 1) ≡ true
  in_range_lem c x lo l s =
      let k = pair_at E U c lo l in
      let v = leb-true x top_code s in
      and_both (and_both (and_both (le-leb 1 (c / U + 1) (omega arith)) (le-leb (c / U + 1) E k.e_high))
      (and_both (le-leb 1 (c % U + 1) (omega arith)) (le-leb (c % U + 1) U k.u_high))) (le-leb (x - 1) 3 (omega arith))

  module _ (lim : in_limits E U ≡ true) where
    collected_reads : (r p : List ℕ) (n e' u' at N c : ℕ) → length p ≡ c → c + length r ≡ E * U → list_all small r ≡ true → Behind U c e' u' → N ≡ n +
        occurrences r → N ≤ 9999
        → collected name E U n e' u' (p ++ replicate (length r) 0) at (lines_of (rest_of c r N)) ≡ good name E U (p ++ r)
    unfolding rest_of
    collected_reads [] p n e' u' at N c lp len sm bh cnt top =
        ap (collected name E U n e' u' (p ++ []) at) (lines_of_lem (end_key ++ dec N) [] (value_clear end_key N refl top))
        ∙ collected_end n e' u' at N (p ++ []) (end_key ++ dec N) (entry_ended N top) (omega arith)
    collected_reads (x ∷ r) p n e' u' at N c lp len sm bh cnt top =
        let sx = and_left (small x) (list_all small r) sm in
        let sr = and_right (small x) (list_all small r) sm in
        let bounds = limits E U lim in
        let e-top : E ≤ limit = bounds.0.high in
        let lo : 1 ≤ U = bounds.1.low in
        let u_top : U ≤ limit = bounds.1.high in
        let within : c < E * U = omega arith in
        let pl = pair_at E U c lo within in
        test (eqb x 0)
        (λ h.
        let cnt' : N ≡ n + occurrences r = cnt ∙ rw h in
        let lp' : length (p ++ 0 ∷ []) ≡ c + 1 = length-append p (0 ∷ []) ∙ omega arith in
        zero_step p r c x N n e' u' at h (collected_reads r (p ++ 0 ∷ []) n e' u' at N (c + 1) lp' (omega arith) sr (behind_more U c e' u' bh) cnt' top))
        (λ h.
        let occ : occurrences (x ∷ r) ≡ occurrences r + 1 = rw h in
        let cnt' : N ≡ n + 1 + occurrences r = omega arith in
        let lp' : length (p ++ x ∷ []) ≡ c + 1 = length-append p (x ∷ []) ∙ omega arith in
        let co : cell U (c / U + 1) (c % U + 1) ≡ c = cell_of U c in
        let x-top = leb-true x top_code sx in
        let bh' : Behind U (c + 1) (c / U + 1) (c % U + 1) = behind_some U (c + 1) (c / U + 1) (c % U + 1) (omega arith) (omega arith) pl.u_high
        (omega arith) in
        some_step p r c x N n e' u' at lp h (let q = pl.e_high in omega arith) (let q = pl.u_high in omega arith) (omega arith) (in_range_lem c x lo within sx)
        (behind_after U c e' u' (c / U + 1) (c % U + 1) bh (omega arith) (omega arith) pl.u_high (omega arith))
        (λ next. collected_reads r (p ++ x ∷ []) (n + 1) (c / U + 1) (c % U + 1) next N (c + 1) lp' (omega arith) sr bh' cnt' top))

-- ---- the whole card

-- three lines and what stands behind them
pub regroup : (a b c d e : List ℕ) → line_of a ++ line_of b ++ line_of c ++ d ++ e ≡ a ++ LF ∷ (b ++ LF ∷ (c ++ LF ∷ (d ++ e)))
regroup a b c d e = simp append_assoc

module _ (name : List ℕ) (E U : ℕ) (t : List ℕ) (g : WriteGood name E U t) where
  N : ℕ
  N = occurrences t

  third : List ℕ
  third = (unknowns_key ++ dec U) ++ LF ∷ rest_of name E U 0 t N

  second : List ℕ
  second = (equations_key ++ dec E) ++ LF ∷ third

  card_is : card_of name E U t ≡ (rig_key ++ name) ++ LF ∷ second
  unfolding card_of rest_of third second N
  card_is = regroup (rig_key ++ name) (equations_key ++ dec E) (unknowns_key ++ dec U) (occurs_lines U 0 t) (line_of (end_key ++ dec (occurrences t)))

  name_bytes : list_all name_byte name ≡ true
  name_bytes = and_right (leb 1 (length name) && leb (length name) 24) (list_all name_byte name) g.named

  limited : (E ≤ limit) × (U ≤ limit)
  limited = let b = limits E U g.limits in (b.0.high, b.1.high)

  codes_few : N ≤ 9999
  unfolding N
  codes_few =
      let b = limited in
      let f = few t in
      let s : length t ≡ E * U = eqb-true (length t) (E * U) g.sized in
      let m = cells_within E U g.limits in
      omega arith

  lines_are : lines_of (card_of name E U t) ≡ line (rig_key ++ name) (line (equations_key ++ dec E)
      (line (unknowns_key ++ dec U) (lines_of (rest_of name E U 0 t N))))
  unfolding third second
  lines_are =
      ap lines_of card_is
      ∙ lines_of_lem (rig_key ++ name) second (rig_clear rig_key name refl name_bytes)
      ∙ ap (line (rig_key ++ name))
      (lines_of_lem (equations_key ++ dec E) third (value_clear equations_key E refl (let b = limited in omega arith))
      ∙ ap (line (equations_key ++ dec E)) (lines_of_lem (unknowns_key ++ dec U) (rest_of name E U 0 t N)
      (value_clear unknowns_key U refl (let b = limited in omega arith))))

  name_is : drop (length rig_key) (take (length (rig_key ++ name)) (card_of name E U t)) ≡ name
  name_is = ap (λ s. drop (length rig_key) (take (length (rig_key ++ name)) s)) card_is ∙ ap (drop (length rig_key))
      (take_at (rig_key ++ name) (LF ∷ second) (length (rig_key ++ name)) refl)

  rig_named : (rest : Lines) → rig_of (line (rig_key ++ name) rest) ≡ Ok (length (rig_key ++ name))
  rig_named rest = rw g.named

  count_said_lem : (key : List ℕ) (n at : ℕ) (rest : Lines) → n ≤ limit → counted_in n ≡ true → count_of key at (line (key ++ dec n) rest) ≡ Ok
      (n, at + length (key ++ dec n) + 1)
  count_said_lem key n at rest h c = ap (count_said at (at + length (key ++ dec n) + 1)) (value_dec key n (omega arith)) ∙ rw c

  head_read : (at : ℕ) (rest : Lines)
      → headed name at (line (equations_key ++ dec E) (line (unknowns_key ++ dec U) rest))
      ≡ list_of name E U (at + length (equations_key ++ dec E) + 1 + length (unknowns_key ++ dec U) + 1) rest
  head_read at rest =
      let b = limited in
      rw (
        count_said_lem equations_key E at (line (unknowns_key ++ dec U) rest) b.0 (and_left (counted_in E) (counted_in U) g.limits),
        count_said_lem unknowns_key U (at + length (equations_key ++ dec E) + 1) rest b.1 (and_right (counted_in E) (counted_in U) g.limits),
      )

  -- what is written is judged good, and says what was written
  pub written_good : judged (card_of name E U t) ≡ good name E U t
  unfolding N
  written_good =
      let s : length t ≡ E * U = eqb-true (length t) (E * U) g.sized in
      let at = length (rig_key ++ name) + 1 in
      let rest = lines_of (rest_of name E U 0 t N) in
      ap (λ ls. from_rig (card_of name E U t) (rig_of ls) ls) lines_are
      ∙ ap (λ r. from_rig (card_of name E U t) r (line (rig_key ++ name) (line (equations_key ++ dec E) (line (unknowns_key ++ dec U) rest))))
      (rig_named (line (equations_key ++ dec E) (line (unknowns_key ++ dec U) rest)))
      ∙ ap (λ m. headed m at (line (equations_key ++ dec E) (line (unknowns_key ++ dec U) rest))) name_is
      ∙ head_read at rest
      ∙ ap (λ m. collected name E U 0 0 0 (replicate m 0) (at + length (equations_key ++ dec E) + 1 + length (unknowns_key ++ dec U) + 1) rest) (sym s)
      ∙ collected_reads name E U g.limits t [] 0 0 0 (at + length (equations_key ++ dec E) + 1 + length (unknowns_key ++ dec U) + 1) N 0 refl (omega arith)
      (codes_small t g.codes) (behind_none U 0) (omega arith) codes_few
