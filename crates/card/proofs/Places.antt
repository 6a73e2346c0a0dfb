-- Every refusal of the reader has a number of 11 to 16, and a place of at most the input's length and of at most 14,847 however long the input is:
-- what is left of the input stands behind the place, and the lines before it belong to different pairs, so they are no longer than all lines
-- of the largest table.
use mathlib.Core.Path.{◌≡◌, refl, ap, ◌∙◌}
use mathlib.Core.Bool.{◌&&◌}
use mathlib.Core.List.{List, [], ◌∷◌, ◌++◌}
use Prim.Native.Nat.{ℕ, suc, ◌+◌, ◌*◌, ◌≤◌}
use native.Mathlib.Omega.{arith}
use lib.Dec.{leb, eqb}
use lib.ListN.{length, take, drop, set, replicate, length-append}
use borrow.Author.Tests.{leb-true}
use Rattle.laws.specs.Count.{sum}
use Rattle.laws.proofs.Tests.{test, and_left, and_right}
use Rattle.table.specs.Model.{limit, counted_in, Numbered}
use Rattle.table.proofs.Model.{counted}
use Rattle.card.specs.Text.{LF, comma, rig_key, equations_key, unknowns_key, occurs_key, end_key, begins, dec, Lines, none, cut, line, lines_of}
use Rattle.std.specs.List.{list_all}
use Rattle.card.specs.Entry.{occurrence, name_byte, good_name, value_of, entry_of}
use Rattle.card.specs.Card.{refused, behind, rig_of, count_said, count_of, in_range, not_after, turn_said, cell, finished, from_turn, collected, list_of, headed}
use Rattle.card.specs.Card.{from_count, from_rig, judged}
use Rattle.card.specs.declared.entry.Entry.{Entry}
use Rattle.card.specs.declared.entry.Entry.TheVariants.{Occurs, End}
use Rattle.std.specs.Prelude.{Option, None, Some, Result, Ok, Err}
use Rattle.card.specs.Refusal.{refusal_number, refused_at}
use Rattle.card.specs.declared.refusal.Refusal.{Refusal}
use Rattle.card.specs.declared.refusal.Refusal.TheVariants.{Shape, Name, Limits, NotAfter, EndNumber}
use Rattle.card.specs.declared.refusal.Refused.{Refused}
use Rattle.card.proofs.PutLaws.{dec_short}
use Rattle.card.proofs.WriteLaws.{occurs_length}
use Rattle.card.proofs.Lines.{begins_is, value_is, entry_occurs_is, entry_end_is, text_of, text_lines}
use Rattle.card.proofs.Order.{row_of, column_of}
use Rattle.card.proofs.LineLaws.{ok_pair}
use Rattle.card.proofs.ListLaws.{Ranged, ranged, cell_within}
use Rattle.card.proofs.Readable.{Reached, reached_none, reached_some, reached_after}
use Rattle.card.proofs.Longest.{wide, dec_wide, wide_two, wide_one, weight, sum_more, weights, longest, all_lines}

-- a refusal's number and place, of an input of so many bytes
pub record Low (size m at : ℕ) : Type 0 where
  pub from : 11 ≤ m
  pub to : m ≤ 16
  pub place : at ≤ longest
  pub within : at ≤ size

-- a refusal of the reader at a place
abbrev LowRefused : ℕ → Refused → Type 0
LowRefused size r = Low size (refusal_number r.refusal) r.place

-- a line and its LF are the bytes before those behind it
line_size : (l : List ℕ) (rest : Lines) → length (text_of (line l rest)) ≡ length l + 1 + length (text_of rest)
unfolding text_of
line_size l rest = length-append l (LF ∷ text_of rest) ∙ omega arith

-- ---- the occurs lines and the end line

-- an occurs line and its LF are as long as its pair's line
line_long : {E U e u k : ℕ} (l : List ℕ) → Ranged E U e u k → entry_of l ≡ Some (Occurs (occurrence e u k)) → length l + 1 ≡ weight U (cell U e u)
unfolding weight
line_long {E} {U} {e} {u} {k} l ra en =
    let lo = length-append (occurs_key ++ dec e ++ comma ∷ dec u ++ comma ∷ dec k) (LF ∷ []) in
    let le : length l ≡ length (occurs_key ++ dec e ++ comma ∷ dec u ++ comma ∷ dec k) = ap length (entry_occurs_is l e u k en) in
    let kk : wide k ≡ 1 = wide_one k (let h = ra.k_high in omega arith) in
    rw (row_of U e u ra.e_low ra.u_low ra.u_high, column_of U e u ra.e_low ra.u_low ra.u_high)
    (omega (arith, occurs_length e u k, dec_wide e, dec_wide u, dec_wide k))

module _ (size : ℕ) (name : List ℕ) (E U : ℕ) (a : E ≤ limit) (b : U ≤ limit) where
  -- what holds where a line starts: the lines before it are those of pairs whose bytes stand before c, and all lines from it on lie within the input
  record Here (c at : ℕ) (ls : Lines) : Type 0 where
    cells : c ≤ E * U
    near : at ≤ 54 + sum c (weight U)
    inside : at + length (text_of ls) ≤ size

  bound : (c : ℕ) → c ≤ E * U → sum c (weight U) ≤ all_lines
  bound c h = let w = weights E U a b in let s = sum_more c (E * U) (weight U) h in omega arith

  here : {c at : ℕ} {ls : Lines} {r : Refused} (m : Refusal) → Here c at ls → 11 ≤ refusal_number m → refusal_number m ≤ 16 → refused (refused_at m at) ≡ refused r
      → LowRefused size r
  here {c} {at} {ls} {r} m k f g e =
      let h = bound c k.cells in
      let x : refused_at m at ≡ r = cc in
      rw (← x) (record { from = f; to = g; place = omega arith; within = omega arith })

  -- behind the end line
  end_low : {c at n : ℕ} {r : Refused} (t l : List ℕ) (rest : Lines) → entry_of l ≡ Some (End n) → Here c at (line l rest)
      → finished name E U t (at + length l + 1) rest ≡ refused r → LowRefused size r
  end_low {c} {at} {n} {r} t l rest en k w = go rest w
    where
      next : refused (refused_at Shape (at + length l + 1)) ≡ refused r → LowRefused size r
      next w =
          let f = bound c k.cells in
          let e : length l ≡ length (end_key ++ dec n) = ap length (entry_end_is l n en) in
          let d : length (end_key ++ dec n) ≤ 8 = simp length-append (omega (arith, dec_short n)) in
          let s = line_size l rest in
          let x : refused_at Shape (at + length l + 1) ≡ r = cc in
          rw (← x) (record { from = omega arith; to = omega arith; place = omega arith; within = omega arith })

      go : (ls : Lines) → finished name E U t (at + length l + 1) ls ≡ refused r → LowRefused size r
      go none w = cc
      go (cut x) w = next w
      go (line x y) w = next w

  Claim : Lines → Type 0
  Claim ls = (n e' u' at c : ℕ) (t : List ℕ) (r : Refused) → Reached U c e' u' → Here c at ls → collected name E U n e' u' t at ls ≡ refused r → LowRefused size r

  line_low : (l : List ℕ) (rest : Lines) → Claim rest → Claim (line l rest)
  unfolding Claim
  line_low l rest ih n e' u' at c t r re k w = go (entry_of l) refl w
    where
      next : ℕ
      next = at + length l + 1

      Low_at : Option Entry → Type 0
      Low_at en = entry_of l ≡ en → from_turn name E U n t at (turn_said E U e' u' at next en) rest
          (λ e u t next. collected name E U (n + 1) e u t next rest) ≡ refused r → LowRefused size r

      taken : (e u x : ℕ) → Low_at (Some (Occurs (occurrence e u x)))
      taken e u x en w =
          test (in_range E U e u x)
          (λ i. test (not_after e u e' u')
          (λ p. here NotAfter k (omega arith) (omega arith) (rw (i, p) at w))
          (λ p.
          let ra = ranged E U e u x i in
          let lo = reached_after E U c e' u' e u x re ra p in
          let hi = cell_within ra in
          let s = sum_more c (cell U e u) (weight U) lo in
          let o : sum (cell U e u + 1) (weight U) ≡ weight U (cell U e u) + sum (cell U e u) (weight U) = ap (λ i. sum i (weight U))
          (let y : cell U e u + 1 ≡ suc (cell U e u) = omega arith in y) in
          let g = line_long l ra en in
          let z = line_size l rest in
          let f : collected name E U (n + 1) e u (set t (cell U e u) (x + 1)) next rest ≡ refused r = rw (i, p) at w in
          ih (n + 1) e u next (cell U e u + 1) (set t (cell U e u) (x + 1)) r (reached_some E U e u x ra)
          (record { cells = omega arith; near = omega arith; inside = omega arith }) f))
          (λ i. test (not_after e u e' u')
          (λ p. here _ k (omega arith) (omega arith) (simp (i, p) at w))
          (λ p. here _ k (omega arith) (omega arith) (simp (i, p) at w)))

      go : (en : Option Entry) → Low_at en
      go None en w = here Shape k (omega arith) (omega arith) w
      go (Some (End N)) en w =
          test (eqb N n) (λ z. end_low t l rest en k (rw z at w)) (λ z. here EndNumber k (omega arith) (omega arith) (rw z at w))
      go (Some (Occurs o)) en w = taken o.equation o.unknown o.order en w

  lines_low : (ls : Lines) → Claim ls
  unfolding Claim
  lines_low none n e' u' at c t r re k w = here Shape k (omega arith) (omega arith) w
  lines_low (cut l) n e' u' at c t r re k w = here Shape k (omega arith) (omega arith) w
  lines_low (line l rest) n e' u' at c t r re k w = line_low l rest (lines_low rest) n e' u' at c t r re k w

  list_low : (ls : Lines) {at : ℕ} {r : Refused} → at ≤ 54 → at + length (text_of ls) ≤ size → list_of name E U at ls ≡ refused r → LowRefused size r
  unfolding Claim
  list_low ls {at} {r} h i w =
      lines_low ls 0 0 0 at 0 (replicate (E * U) 0) r (reached_none U) (record { cells = omega arith; near = omega arith; inside = i }) w

-- ---- the first three lines

-- a refusal of 11 to 16 at a place
record LowAt (r : Refused) (at : ℕ) : Type 0 where
  from : 11 ≤ refusal_number r.refusal
  to : refusal_number r.refusal ≤ 16
  place : r.place ≡ at

count_low : (key : List ℕ) (at : ℕ) (ls : Lines) (r : Refused) → count_of key at ls ≡ Err r → LowAt r at
count_low key at ls r q = go ls q
  where
    low : (m : Refusal) → 11 ≤ refusal_number m → refusal_number m ≤ 16 → ◌≡◌ {A = Result (ℕ × ℕ) Refused} (Err (refused_at m at)) (Err r) → LowAt r at
    low m f g e = let x : refused_at m at ≡ r = cc in rw (← x) (record { from = f; to = g; place = refl })

    said : (next : ℕ) (v : Option ℕ) → count_said at next v ≡ Err r → LowAt r at
    said next None q = low Shape (omega arith) (omega arith) q
    said next (Some n) q =
        test (counted_in n) (λ h. cc (rw h at q)) (λ h. low Limits (omega arith) (omega arith) (rw h at q))

    go : (ls : Lines) → count_of key at ls ≡ Err r → LowAt r at
    go none q = low Shape (omega arith) (omega arith) q
    go (cut l) q = low Shape (omega arith) (omega arith) q
    go (line l rest) q = said (at + length l + 1) (value_of key l) q

-- a count line is no longer than its key, two digits and the LF
count_next : (key : List ℕ) (at : ℕ) (ls : Lines) (n next : ℕ) → count_of key at ls ≡ Ok (n, next)
    → Numbered n × (next ≤ at + length key + 3) × (next + length (text_of (behind ls)) ≡ at + length (text_of ls))
count_next key at none n next q = cc
count_next key at (cut l) n next q = cc
count_next key at (line l rest) n next q = go (value_of key l) refl q
  where
    go : (v : Option ℕ) → value_of key l ≡ v → count_said at (at + length l + 1) v ≡ Ok (n, next)
        → Numbered n × (next ≤ at + length key + 3) × (next + length (text_of rest) ≡ at + length (text_of (line l rest)))
    go None p q = cc
    go (Some k) p q =
        test (counted_in k)
        (λ h.
        let (z, y) = ok_pair {m = k} {n = n} {a = at + length l + 1} {b = next} (rw h at q) in
        let c = counted k h in
        let e : length l ≡ length key + length (dec k) = ap length (value_is key l k p).0 ∙ length-append key (dec k) in
        let d = wide_two k (let t = c.high in omega arith) in
        (rw z at c, omega (arith, dec_wide k), omega (arith, line_size l rest)))
        (λ h. cc (rw h at q))

rig_low : (ls : Lines) (r : Refused) → rig_of ls ≡ Err r → LowAt r 0
rig_low ls r q = go ls q
  where
    low : (m : Refusal) → 11 ≤ refusal_number m → refusal_number m ≤ 16 → ◌≡◌ {A = Result ℕ Refused} (Err (refused_at m 0)) (Err r) → LowAt r 0
    low m f g e = let x : refused_at m 0 ≡ r = cc in rw (← x) (record { from = f; to = g; place = refl })

    go : (ls : Lines) → rig_of ls ≡ Err r → LowAt r 0
    go none q = low Shape (omega arith) (omega arith) q
    go (cut l) q = low Shape (omega arith) (omega arith) q
    go (line l rest) q =
        test (begins rig_key l)
        (λ b. test (good_name (drop (length rig_key) l)) (λ g. cc (rw (b, g) at q)) (λ g. low Name (omega arith) (omega arith) (rw (b, g) at q)))
        (λ b. low Shape (omega arith) (omega arith) (rw b at q))

-- a rig line is no longer than its key and 24 bytes
rig_end : (ls : Lines) (e : ℕ) → rig_of ls ≡ Ok e → (e ≤ 28) × (e + 1 + length (text_of (behind ls)) ≡ length (text_of ls))
rig_end none e q = cc
rig_end (cut l) e q = cc
rig_end (line l rest) e q =
    test (begins rig_key l)
    (λ b. test (good_name (drop (length rig_key) l))
    (λ g.
    let f : Ok (length l) ≡ Ok e = rw (b, g) at q in
    let z : length l ≡ e = cc in
    let n = drop (length rig_key) l in
    let both = and_left (leb 1 (length n) && leb (length n) 24) (list_all name_byte n) g in
    let s = leb-true (length n) 24 (and_right (leb 1 (length n)) (leb (length n) 24) both) in
    let k : length l ≡ length rig_key + length n = ap length (begins_is rig_key l b) ∙ length-append rig_key n in
    (omega arith, omega (arith, line_size l rest)))
    (λ g. cc (rw (b, g) at q)))
    (λ b. cc (rw b at q))

-- ---- the theorem

headed_low : (size : ℕ) (name : List ℕ) (at : ℕ) (ls : Lines) (r : Refused) → at ≤ 29 → at + length (text_of ls) ≤ size → headed name at ls ≡ refused r
    → LowRefused size r
headed_low size name at ls r h i w = first (count_of equations_key at ls) refl w
  where
    low : (m : Refused) (p : ℕ) → LowAt m p → p ≤ 54 → p ≤ size → refused m ≡ refused r → LowRefused size r
    low m p b l s e = let x : m ≡ r = cc in rw (← x) (record { from = b.from; to = b.to; place = rw b.place (omega arith); within = rw b.place s })

    second : (E at₂ : ℕ) → E ≤ limit → at₂ ≤ 42 → at₂ + length (text_of (behind ls)) ≤ size → (c : Result (ℕ × ℕ) Refused)
        → count_of unknowns_key at₂ (behind ls) ≡ c → from_count c (λ U at₃. list_of name E U at₃ (behind (behind ls))) ≡ refused r → LowRefused size r
    second E at₂ a l s (Err m) p w = low m at₂ (count_low unknowns_key at₂ (behind ls) m p) (omega arith) (omega arith) w
    second E at₂ a l s (Ok (U, at₃)) p w =
        let (c, z, y) = count_next unknowns_key at₂ (behind ls) U at₃ p in
        list_low size name E U a c.high (behind (behind ls)) (omega arith) (omega arith) w

    first : (c : Result (ℕ × ℕ) Refused) → count_of equations_key at ls ≡ c
        → from_count c (λ E at₂. from_count (count_of unknowns_key at₂ (behind ls))
        (λ U at₃. list_of name E U at₃ (behind (behind ls)))) ≡ refused r → LowRefused size r
    first (Err m) p w = low m at (count_low equations_key at ls m p) (omega arith) (omega arith) w
    first (Ok (E, at₂)) p w =
        let (c, z, y) = count_next equations_key at ls E at₂ p in
        second E at₂ c.high (omega arith) (omega arith) (count_of unknowns_key at₂ (behind ls)) refl w

pub places : (s : List ℕ) (r : Refused) → judged s ≡ refused r → Low (length s) (refusal_number r.refusal) r.place
places s r w = go (rig_of (lines_of s)) refl w
  where
    go : (l : Result ℕ Refused) → rig_of (lines_of s) ≡ l → from_rig s l (lines_of s) ≡ refused r → LowRefused (length s) r
    go (Err m) p w =
        let b = rig_low (lines_of s) m p in
        let x : m ≡ r = cc in
        rw (← x) (record { from = b.from; to = b.to; place = rw b.place (omega arith); within = rw b.place (omega arith) })
    go (Ok e) p w =
        let (z, y) = rig_end (lines_of s) e p in
        let l : length (text_of (lines_of s)) ≡ length s = ap length (text_lines s) in
        headed_low (length s) (drop (length rig_key) (take e s)) (e + 1) (behind (lines_of s)) r (omega arith) (omega arith) w
