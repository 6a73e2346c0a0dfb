-- An input that is judged good is the card of the name, E, U and table that it says.
use mathlib.Core.Path.{◌≡◌, refl, ap, sym, ◌∙◌}
use mathlib.Core.Bool.{true, false}
use mathlib.Core.List.{List, [], ◌∷◌, ◌++◌, append_assoc}
use mathlib.Core.Logic.{◌⊎◌, inl, inr}
use Prim.Native.Nat.{ℕ, zero, suc, ◌+◌, ◌-◌, ◌*◌, ◌/◌, ◌%◌, ◌≤◌}
use native.Mathlib.Omega.{arith}
use lib.Dec.{eqb}
use lib.ListN.{length, take, drop, set, replicate, length-append, length-replicate, replicate-append-replicate}
use lib.Seq.{set_at, take_at}
use borrow.Author.Tests.{eq-eqb, ne_eqb, eqb-true, le-leb, leb-false}
use Rattle.laws.proofs.Tests.{test, either, and_both}
use Rattle.table.specs.Model.{top_code, counted_in}
use Rattle.card.specs.Text.{LF, comma, rig_key, equations_key, unknowns_key, occurs_key, end_key, begins, dec, Lines, none, cut, line, lines_of}
use Rattle.std.specs.List.{list_all}
use Rattle.card.specs.Entry.{occurrence, good_name, value_of, entry_of}
use Rattle.card.specs.Card.{Judged, good, behind, rig_of, count_said, count_of, in_range, not_after, turn_said, cell, finished, from_turn}
use Rattle.card.specs.Card.{collected, list_of, from_count, headed, from_rig, judged, line_of, occurs_lines, occurrences, card_of}
use Rattle.std.specs.Prelude.{Option, None, Some, Result, Ok, Err}
use Rattle.card.specs.declared.refusal.Refused.{Refused}
use Rattle.card.specs.Promise.{WriteGood, IsCard}
use Rattle.card.specs.declared.entry.Entry.{Entry}
use Rattle.card.specs.declared.entry.Entry.TheVariants.{Occurs, End}
use Rattle.card.proofs.Lines.{every_append, begins_is, value_is, entry_occurs_is, entry_end_is, text_of, text_lines}
use Rattle.card.proofs.Order.{cells_order, row_of, column_of}
use Rattle.card.proofs.LineLaws.{ok_pair}
use Rattle.card.proofs.ListLaws.{Ranged, ranged, cell_within}
use Rattle.card.proofs.Written.{small, small_codes, rest_of, rest_none, rest_some, regroup}

-- the pair of the last line, 0, 0 where there is none: c is the byte behind it
pub Reached : ℕ → ℕ → ℕ → ℕ → Type 0
Reached U c e' u' = ((e' ≡ 0) × (c ≡ 0)) ⊎ ((1 ≤ e') × (1 ≤ u') × (u' ≤ U) × (cell U e' u' + 1 ≡ c))

pub reached_none : (U : ℕ) → Reached U 0 0 0
unfolding Reached
reached_none U = inl (refl, refl)

pub reached_some : (E U e u k : ℕ) → Ranged E U e u k → Reached U (cell U e u + 1) e u
unfolding Reached
reached_some E U e u k r = inr (r.e_low, r.u_low, r.u_high, refl)

-- a pair that comes after the last one has its byte from c on
pub reached_after : (E U c e' u' e u k : ℕ) → Reached U c e' u' → Ranged E U e u k → not_after e u e' u' ≡ false → c ≤ cell U e u
unfolding Reached
reached_after E U c e' u' e u k h r p =
    either h
    (λ w. let z = w.1 in omega arith)
    (λ w. let f = leb-false (cell U e u) (cell U e' u') (sym (cells_order U e u e' u' r.e_low r.u_low r.u_high w.0 w.1 w.2) ∙ p) in
    let z = w.3 in omega arith)

-- ---- zeros in a table

zeros_codes : (m : ℕ) → list_all small (replicate m 0) ≡ true
zeros_codes zero = refl
zeros_codes (suc m) = zeros_codes m

zeros_none : (m : ℕ) → occurrences (replicate m 0) ≡ 0
zeros_none zero = refl
zeros_none (suc m) = zeros_none m

zeros_front : (j : ℕ) (r : List ℕ) → occurrences (replicate j 0 ++ r) ≡ occurrences r
zeros_front zero r = refl
zeros_front (suc j) r = zeros_front j r

module _ (name : List ℕ) (E U : ℕ) where
  -- zeros have no lines
  zeros_rest : (j c : ℕ) (r : List ℕ) (N : ℕ) → rest_of name E U c (replicate j 0 ++ r) N ≡ rest_of name E U (c + j) r N
  zeros_rest zero c r N = ap (λ i. rest_of name E U i r N) (let z : c ≡ c + 0 = omega arith in z)
  zeros_rest (suc j) c r N =
      rest_none name E U c 0 (replicate j 0 ++ r) N refl ∙ zeros_rest j (c + 1) r N ∙ ap (λ i. rest_of name E U i r N)
      (let z : c + 1 + j ≡ c + suc j = omega arith in z)

  zeros_end : (m c N : ℕ) → rest_of name E U c (replicate m 0) N ≡ line_of (end_key ++ dec N)
  unfolding rest_of
  zeros_end zero c N = refl
  zeros_end (suc m) c N = zeros_end m (c + 1) N

  -- a store into zeros
  store : (p : List ℕ) (c j m x i : ℕ) → length p ≡ c → c + j ≡ i → set (p ++ replicate (j + suc m) 0) i x ≡ ((p ++ replicate j 0) ++ x ∷ []) ++ replicate m 0
  store p c j m x i a b =
      ap (λ z. set (p ++ z) i x) (sym (replicate-append-replicate j (suc m) 0))
      ∙ ap (λ z. set z i x) (sym (append_assoc p (replicate j 0) (0 ∷ replicate m 0)))
      ∙ set_at (p ++ replicate j 0) 0 (replicate m 0) x i (length-append p (replicate j 0) ∙ (let l = length-replicate {A = ℕ} j 0 in omega arith))
      ∙ sym (append_assoc (p ++ replicate j 0) (x ∷ []) (replicate m 0))

  -- what good lines are: the rest of a table behind p, written out
  record Rest (p : List ℕ) (n c m : ℕ) (ls : Lines) (name' : List ℕ) (E' U' : ℕ) (T : List ℕ) : Type 0 where
    same_name : name ≡ name'
    same_E : E ≡ E'
    same_U : U ≡ U'
    r : List ℕ
    table : T ≡ p ++ r
    sized : length r ≡ m
    codes : list_all small r ≡ true
    text : text_of ls ≡ rest_of name E U c r (n + occurrences r)

  Claim : Lines → Type 0
  Claim ls = (p : List ℕ) (n e' u' at c m : ℕ) (name' : List ℕ) (E' U' : ℕ) (T : List ℕ) → length p ≡ c → c + m ≡ E * U → Reached U c e' u'
      → collected name E U n e' u' (p ++ replicate m 0) at ls ≡ good name' E' U' T → Rest p n c m ls name' E' U' T

  -- the end line
  end_rest : (p : List ℕ) (n c m at N : ℕ) (l : List ℕ) (rest : Lines) (name' : List ℕ) (E' U' : ℕ) (T : List ℕ) → entry_of l ≡ Some (End N) → N ≡ n
      → finished name E U (p ++ replicate m 0) at rest ≡ good name' E' U' T → Rest p n c m (line l rest) name' E' U' T
  unfolding text_of
  end_rest p n c m at N l (cut x) name' E' U' T en eq q = cc
  end_rest p n c m at N l (line x y) name' E' U' T en eq q = cc
  end_rest p n c m at N l none name' E' U' T en eq q =
      let z : N ≡ n + occurrences (replicate m 0) = let o = zeros_none m in omega arith in
      record {
        same_name = cc;
        same_E = cc;
        same_U = cc;
        r = replicate m 0;
        table = cc;
        sized = length-replicate {A = ℕ} m 0;
        codes = zeros_codes m;
        text = ap (λ x. x ++ LF ∷ []) (entry_end_is l N en) ∙ ap (λ i. line_of (end_key ++ dec i)) z ∙ sym (zeros_end m c (n + occurrences (replicate m 0)));
      }

  -- an occurs line
  occurs_rest : (p : List ℕ) (n c m j m' : ℕ) (l : List ℕ) (rest : Lines) (name' : List ℕ) (E' U' : ℕ) (T : List ℕ) {e u k : ℕ} → entry_of l ≡ Some (Occurs (occurrence e u k)) → Ranged E U e u k
      → c + j ≡ cell U e u → j + suc m' ≡ m → Rest ((p ++ replicate j 0) ++ (k + 1) ∷ []) (n + 1) (cell U e u + 1) m' rest name' E' U' T
      → Rest p n c m (line l rest) name' E' U' T
  unfolding text_of
  occurs_rest p n c m j m' l rest name' E' U' T {e} {u} {k} en ra a b w =
      let r' = w.r in
      let x = k + 1 in
      let r : List ℕ = replicate j 0 ++ x ∷ r' in
      let nz : eqb x 0 ≡ false = ne_eqb x 0 (λ y. omega arith) in
      let kk : x - 1 ≡ k = omega arith in
      let occ : occurrences r ≡ occurrences r' + 1 = zeros_front j (x ∷ r') ∙ rw nz in
      let num : n + 1 + occurrences r' ≡ n + occurrences r = omega arith in
      let ro : cell U e u / U + 1 ≡ e = row_of U e u ra.e_low ra.u_low ra.u_high in
      let co : cell U e u % U + 1 ≡ u = column_of U e u ra.e_low ra.u_low ra.u_high in
      let N = n + occurrences r in
      let there : rest_of name E U c r N ≡ (occurs_key ++ dec e ++ comma ∷ dec u ++ comma ∷ dec k) ++ LF ∷ rest_of name E U (cell U e u + 1) r' N
      = zeros_rest j c (x ∷ r') N ∙ ap (λ i. rest_of name E U i (x ∷ r') N) a ∙ rest_some name E U (cell U e u) x r' N nz
      ∙ ap (λ i. (occurs_key ++ dec i ++ comma ∷ dec (cell U e u % U + 1) ++ comma ∷ dec (x - 1)) ++ LF ∷ rest_of name E U (cell U e u + 1) r' N) ro
      ∙ ap (λ i. (occurs_key ++ dec e ++ comma ∷ dec i ++ comma ∷ dec (x - 1)) ++ LF ∷ rest_of name E U (cell U e u + 1) r' N) co
      ∙ ap (λ i. (occurs_key ++ dec e ++ comma ∷ dec u ++ comma ∷ dec i) ++ LF ∷ rest_of name E U (cell U e u + 1) r' N) kk in
      record {
        same_name = w.same_name;
        same_E = w.same_E;
        same_U = w.same_U;
        r = r;
        table = w.table ∙ append_assoc (p ++ replicate j 0) (x ∷ []) r' ∙ append_assoc p (replicate j 0) (x ∷ r');
        sized = length-append (replicate j 0) (x ∷ r') ∙ (let s = w.sized in let l = length-replicate {A = ℕ} j 0 in omega arith);
        codes = every_append small (replicate j 0) (x ∷ r') (zeros_codes j) (and_both (le-leb x top_code (let h = ra.k_high in omega arith)) w.codes);
        text = ap (λ s. s ++ LF ∷ text_of rest) (entry_occurs_is l e u k en)
            ∙ ap (λ s. (occurs_key ++ dec e ++ comma ∷ dec u ++ comma ∷ dec k) ++ LF ∷ s) (w.text ∙ ap (rest_of name E U (cell U e u + 1) r') num)
            ∙ sym there;
      }

  -- a line, by what it says
  line_rest : (l : List ℕ) (rest : Lines) → Claim rest → Claim (line l rest)
  unfolding Claim
  line_rest l rest ih p n e' u' at c m name' E' U' T lp len re q = go (entry_of l) refl q
    where
      next : ℕ
      next = at + length l + 1

      t : List ℕ
      t = p ++ replicate m 0

      on : ℕ → ℕ → List ℕ → ℕ → Judged
      on e u t next = collected name E U (n + 1) e u t next rest

      Rest_at : Option Entry → Type 0
      Rest_at en = entry_of l ≡ en → from_turn name E U n t at (turn_said E U e' u' at next en) rest on ≡ good name' E' U' T → Rest p n c m
          (line l rest) name' E' U' T

      taken : (e u k : ℕ) → Rest_at (Some (Occurs (occurrence e u k)))
      taken e u k en q =
          test (in_range E U e u k)
          (λ h. test (not_after e u e' u')
          (λ b. cc (rw (h, b) at q))
          (λ b.
          let ra = ranged E U e u k h in
          let lo = reached_after E U c e' u' e u k re ra b in
          let hi = cell_within ra in
          let j = cell U e u - c in
          let m' = m - (j + 1) in
          let a : c + j ≡ cell U e u = omega arith in
          let d : j + suc m' ≡ m = omega arith in
          let f : collected name E U (n + 1) e u (set t (cell U e u) (k + 1)) next rest ≡ good name' E' U' T = rw (h, b) at q in
          let s : set t (cell U e u) (k + 1) ≡ ((p ++ replicate j 0) ++ (k + 1) ∷ []) ++ replicate m' 0
          = ap (λ i. set (p ++ replicate i 0) (cell U e u) (k + 1)) (sym d) ∙ store p c j m' (k + 1) (cell U e u) lp a in
          let lp' : length ((p ++ replicate j 0) ++ (k + 1) ∷ []) ≡ cell U e u + 1
          = length-append (p ++ replicate j 0) ((k + 1) ∷ []) ∙ ap (λ i. i + 1) (length-append p (replicate j 0)) ∙
          (let r = length-replicate {A = ℕ} j 0 in omega arith) in
          occurs_rest p n c m j m' l rest name' E' U' T en ra a d
          (ih ((p ++ replicate j 0) ++ (k + 1) ∷ []) (n + 1) e u next (cell U e u + 1) m' name' E' U' T lp' (omega arith) (reached_some E U e u k ra)
          (ap (λ i. collected name E U (n + 1) e u i next rest) (sym s) ∙ f))))
          (λ h. test (not_after e u e' u') (λ b. cc (simp (h, b) at q)) (λ b. cc (simp (h, b) at q)))

      go : (en : Option Entry) → Rest_at en
      go None en q = cc
      go (Some (End N)) en q =
          test (eqb N n)
          (λ h. end_rest p n c m next N l rest name' E' U' T en (eqb-true N n h) (rw h at q))
          (λ h. cc (rw h at q))
      go (Some (Occurs o)) en q = taken o.equation o.unknown o.order en q

  collected_is : (ls : Lines) → Claim ls
  unfolding Claim
  collected_is none p n e' u' at c m name' E' U' T lp len re q = cc
  collected_is (cut l) p n e' u' at c m name' E' U' T lp len re q = cc
  collected_is (line l rest) p n e' u' at c m name' E' U' T lp len re q = line_rest l rest (collected_is rest) p n e' u' at c m name' E' U' T lp len re q

-- ---- the first three lines

count_is : (key : List ℕ) (at : ℕ) (ls : Lines) (n next : ℕ) → count_of key at ls ≡ Ok (n, next) →
    (text_of ls ≡ (key ++ dec n) ++ LF ∷ text_of (behind ls)) × (counted_in n ≡ true)
unfolding text_of
count_is key at none n next q = cc
count_is key at (cut l) n next q = cc
count_is key at (line l rest) n next q = go (value_of key l) refl q
  where
    go : (v : Option ℕ) → value_of key l ≡ v → count_said at (at + length l + 1) v ≡ Ok (n, next) →
        (l ++ LF ∷ text_of rest ≡ (key ++ dec n) ++ LF ∷ text_of rest) × (counted_in n ≡ true)
    go None p q = cc
    go (Some m) p q =
        test (counted_in m)
        (λ h.
        let z : m ≡ n = (ok_pair (rw h at q)).0 in
        (ap (λ x. x ++ LF ∷ text_of rest) ((value_is key l m p).0 ∙ ap (λ i. key ++ dec i) z), rw z at h))
        (λ h. cc (rw h at q))

record RigIs (ls : Lines) (e : ℕ) : Type 0 where
  nm : List ℕ
  fine : good_name nm ≡ true
  long : length (rig_key ++ nm) ≡ e
  text : text_of ls ≡ (rig_key ++ nm) ++ LF ∷ text_of (behind ls)

rig_is : (ls : Lines) (e : ℕ) → rig_of ls ≡ Ok e → RigIs ls e
unfolding text_of
rig_is none e q = cc
rig_is (cut l) e q = cc
rig_is (line l rest) e q =
    test (begins rig_key l)
    (λ b. test (good_name (drop (length rig_key) l))
    (λ g.
    let f : Ok (length l) ≡ Ok e = rw (b, g) at q in
    let z : length l ≡ e = cc in
    let k = begins_is rig_key l b in
    record { nm = drop (length rig_key) l; fine = g; long = ap length (sym k) ∙ z; text = ap (λ x. x ++ LF ∷ text_of rest) k })
    (λ g. cc (rw (b, g) at q)))
    (λ b. cc (rw b at q))

-- ---- the theorem

moved : {nm name r t : List ℕ} {E' E U' U : ℕ} → nm ≡ name → E' ≡ E → U' ≡ U → t ≡ r → WriteGood nm E' U' r → WriteGood name E U t
moved a b c d g = rw (← a, ← b, ← c, d) g

rewrite_all : {nm name r t : List ℕ} {E' E U' U : ℕ} → nm ≡ name → E' ≡ E → U' ≡ U → t ≡ r
    → (equations_key ++ dec E') ++ LF ∷ ((unknowns_key ++ dec U') ++ LF ∷ rest_of nm E' U' 0 r (occurrences r))
    ≡ (equations_key ++ dec E) ++ LF ∷ ((unknowns_key ++ dec U) ++ LF ∷ rest_of name E U 0 t (occurrences t))
rewrite_all a b c d = rw (a, b, c, ← d)

headed_is : (nm : List ℕ) (at : ℕ) (ls : Lines) (name : List ℕ) (E U : ℕ) (t : List ℕ) → good_name nm ≡ true → headed nm at ls ≡ good name E U t
    → (nm ≡ name) × (text_of ls ≡ (equations_key ++ dec E) ++ LF ∷ ((unknowns_key ++ dec U) ++ LF ∷ rest_of name E U 0 t (occurrences t))) × WriteGood name E U t
unfolding Claim
headed_is nm at ls name E U t fine q = first (count_of equations_key at ls) refl q
  where
    Goal : Type 0
    Goal = (nm ≡ name) × (text_of ls ≡ (equations_key ++ dec E) ++ LF ∷ ((unknowns_key ++ dec U) ++ LF ∷ rest_of name E U 0 t (occurrences t))) ×
        WriteGood name E U t

    both : (E' U' at₂ at₃ : ℕ) → count_of equations_key at ls ≡ Ok (E', at₂) → count_of unknowns_key at₂ (behind ls) ≡ Ok (U', at₃)
        → list_of nm E' U' at₃ (behind (behind ls)) ≡ good name E U t → Goal
    both E' U' at₂ at₃ p r q =
        let w = collected_is nm E' U' (behind (behind ls)) [] 0 0 0 at₃ 0 (E' * U') name E U t refl (omega arith) (reached_none U') q in
        let x = count_is equations_key at ls E' at₂ p in
        let y = count_is unknowns_key at₂ (behind ls) U' at₃ r in
        let z : 0 + occurrences w.r ≡ occurrences w.r = omega arith in
        let a : nm ≡ name = w.same_name in
        let b : E' ≡ E = w.same_E in
        let c : U' ≡ U = w.same_U in
        let d : t ≡ w.r = w.table in
        let e₁ : text_of ls ≡ (equations_key ++ dec E') ++ LF ∷ text_of (behind ls) = x.0 in
        let e₂ : text_of (behind ls) ≡ (unknowns_key ++ dec U') ++ LF ∷ text_of (behind (behind ls)) = y.0 in
        let e₃ : text_of (behind (behind ls)) ≡ rest_of nm E' U' 0 w.r (0 + occurrences w.r) = w.text in (
          a,
          e₁ ∙ ap (λ i. (equations_key ++ dec E') ++ LF ∷ i) (e₂ ∙ ap (λ i. (unknowns_key ++ dec U') ++ LF ∷ i)
              (e₃ ∙ ap (rest_of nm E' U' 0 w.r) z)) ∙ rewrite_all a b c d,
          moved a b c d (record {
            named = fine;
            limits = and_both x.1 y.1;
            sized = eq-eqb (length w.r) (E' * U') w.sized;
            codes =
                small_codes w.r w.codes;
          }),
        )

    second : (E' at₂ : ℕ) → count_of equations_key at ls ≡ Ok (E', at₂) → (c : Result (ℕ × ℕ) Refused) → count_of unknowns_key at₂ (behind ls) ≡ c
        → from_count c (λ U' at₃. list_of nm E' U' at₃ (behind (behind ls))) ≡ good name E U t → Goal
    second E' at₂ p (Err m) r q = cc
    second E' at₂ p (Ok (U', at₃)) r q = both E' U' at₂ at₃ p r q

    first : (c : Result (ℕ × ℕ) Refused) → count_of equations_key at ls ≡ c
        → from_count c (λ E' at₂. from_count (count_of unknowns_key at₂ (behind ls))
        (λ U' at₃. list_of nm E' U' at₃ (behind (behind ls)))) ≡ good name E U t → Goal
    first (Err m) p q = cc
    first (Ok (E', at₂)) p q = second E' at₂ p (count_of unknowns_key at₂ (behind ls)) refl q

pub card_text : (name : List ℕ) (E U : ℕ) (t : List ℕ)
    → (rig_key ++ name) ++ LF ∷ ((equations_key ++ dec E) ++ LF ∷ ((unknowns_key ++ dec U) ++ LF ∷ rest_of name E U 0 t (occurrences t))) ≡ card_of name E U t
unfolding card_of rest_of
card_text name E U t = sym (regroup (rig_key ++ name) (equations_key ++ dec E) (unknowns_key ++ dec U) (occurs_lines U 0 t)
    (line_of (end_key ++ dec (occurrences t))))

-- a good input is the card of what it says
pub good_card : (s name : List ℕ) (E U : ℕ) (t : List ℕ) → judged s ≡ good name E U t → IsCard s name E U t
good_card s name E U t q = go (rig_of (lines_of s)) refl q
  where
    go : (r : Result ℕ Refused) → rig_of (lines_of s) ≡ r → from_rig s r (lines_of s) ≡ good name E U t → IsCard s name E U t
    go (Err m) p q = cc
    go (Ok e) p q =
        let k = rig_is (lines_of s) e p in
        let x : s ≡ (rig_key ++ k.nm) ++ LF ∷ text_of (behind (lines_of s)) = sym (text_lines s) ∙ k.text in
        let y : drop (length rig_key) (take e s) ≡ k.nm = ap (λ i. drop (length rig_key) (take e i)) x ∙ ap (drop (length rig_key))
        (take_at (rig_key ++ k.nm) (LF ∷ text_of (behind (lines_of s))) e k.long) in
        let h = headed_is k.nm (e + 1) (behind (lines_of s)) name E U t k.fine (ap (λ i. headed i (e + 1) (behind (lines_of s))) (sym y) ∙ q) in
        record {
          bytes = x ∙ ap (λ i. (rig_key ++ k.nm) ++ LF ∷ i) h.1 ∙ ap
              (λ i. (rig_key ++ i) ++ LF ∷ ((equations_key ++ dec E) ++ LF ∷ ((unknowns_key ++ dec U) ++ LF ∷ rest_of name E U 0 t (occurrences t))))
              h.0 ∙ card_text name E U t;
          fine = h.2;
        }
