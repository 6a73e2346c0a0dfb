-- Laws of the occurs lines and the end line: what a line that was taken says, and what the loop over the lines keeps.
use mathlib.Core.Path.{◌≡◌, refl, ap, ◌∙◌}
use mathlib.Core.Bool.{true, false, ◌&&◌}
use mathlib.Core.List.{List, [], ◌∷◌}
use Prim.Native.Nat.{ℕ, ◌+◌, ◌-◌, ◌*◌, ◌≤◌, ◌<◌}
use native.Mathlib.Omega.{arith}
use native.Mathlib.Nat.{mul-le-mul, lt_of_lt_of_le}
use lib.Arith.{digits_lt}
use lib.Dec.{leb, ltb, eqb}
use lib.ListN.{length, take, drop, set, replicate, length-drop, length-set, length-replicate, drop_of_length-le}
use lib.Seq.{take-set-lt}
use borrow.Author.Tests.{leb-true, ltb-true, ltb-false}
use Rattle.std.proofs.lemmas.List.{take-replicate}
use Rattle.laws.specs.Tab.{pick}
use Rattle.laws.proofs.Tests.{test, and_left, and_right}
use Rattle.table.specs.Model.{limit, in_limits}
use Rattle.table.proofs.Model.{limits}
use Rattle.card.specs.Text.{LF, Lines, none, cut, line, grown, lines_of}
use Rattle.card.specs.Entry.{entry_of}
use Rattle.card.specs.Card.{refused, behind, in_range, not_after, occurs, ends, turn_said, turn_of, cell, finished, from_turn, collected, list_of}
use Rattle.card.specs.Steps.{end_of, end_said, ListRead}
use Rattle.card.specs.declared.entry.Entry.{Entry}
use Rattle.card.specs.declared.entry.Entry.TheVariants.{Occurs, End}
use Rattle.std.specs.Prelude.{Option, None, Some, Ok, Err}
use Rattle.card.specs.Refusal.{refused_at}
use Rattle.card.specs.declared.refusal.Refusal.TheVariants.{Shape, NotAfter, EndNumber}
use Rattle.card.specs.declared.refusal.Refused.{Refused}
use Rattle.card.proofs.LineLaws.{LineFound, found, turn_none, turn_found, behind_found}

-- ---- a pair within its limits

pub record Ranged (E U e u k : ℕ) : Type 0 where
  pub e_low : 1 ≤ e
  pub e_high : e ≤ E
  pub u_low : 1 ≤ u
  pub u_high : u ≤ U
  pub k_high : k ≤ 3

pub ranged : (E U e u k : ℕ) → in_range E U e u k ≡ true → Ranged E U e u k
ranged E U e u k h =
    let both = and_left ((leb 1 e && leb e E) && (leb 1 u && leb u U)) (leb k 3) h in
    let es = and_left (leb 1 e && leb e E) (leb 1 u && leb u U) both in
    let us = and_right (leb 1 e && leb e E) (leb 1 u && leb u U) both in
    record {
      e_low = leb-true 1 e (and_left (leb 1 e) (leb e E) es);
      e_high = leb-true e E (and_right (leb 1 e) (leb e E) es);
      u_low = leb-true 1 u (and_left (leb 1 u) (leb u U) us);
      u_high = leb-true u U (and_right (leb 1 u) (leb u U) us);
      k_high = leb-true k 3 (and_right ((leb 1 e && leb e E) && (leb 1 u && leb u U)) (leb k 3) h);
    }

-- its byte lies within the table
pub cell_within : {E U e u k : ℕ} → Ranged E U e u k → cell U e u < E * U
cell_within {E} {U} {e} {u} {k} r =
    let a = r.e_low in let b = r.e_high in let c = r.u_low in let d = r.u_high in
    digits_lt {q = e - 1} {m = E} {r = u - 1} {c = U} (omega arith) (omega arith)

-- the table fits what is kept for it
pub cells_within : (E U : ℕ) → in_limits E U ≡ true → E * U ≤ limit * limit
cells_within E U h = let l = limits E U h in mul-le-mul l.0.high l.1.high

module _ {E U e u k x : ℕ} (h : in_limits E U ≡ true) (r : Ranged E U e u k) (p : x ≡ e - 1) where
  pub cell_fits : {y : ℕ} → y ≡ u - 1 → x * U + y < limit * limit
  cell_fits q = rw (p, q) (lt_of_lt_of_le (cell_within r) (cells_within E U h))

-- ---- a line that was taken

-- an occurs line: its pair is in range and comes after the last one, and the code is k + 1
pub record Taking (E U e' u' e u code : ℕ) : Type 0 where
  pub k : ℕ
  pub ranged : Ranged E U e u k
  pub code_is : code ≡ k + 1
  pub after : not_after e u e' u' ≡ false

taking : (E U e' u' at next : ℕ) (en : Option Entry) {e u code n : ℕ} → turn_said E U e' u' at next en ≡ Ok (occurs e u code n)
    → Taking E U e' u' e u code × (next ≡ n)
taking E U e' u' at next None q = cc
taking E U e' u' at next (Some (End m)) q = cc
taking E U e' u' at next (Some (Occurs o)) {e} {u} {code} {n} q =
    let e₀ = o.equation in let u₀ = o.unknown in let k = o.order in
    test (in_range E U e₀ u₀ k)
    (λ t. test (not_after e₀ u₀ e' u')
    (λ b. let f : Err (refused_at NotAfter at) ≡ Ok (occurs e u code n) = rw (t, b) at q in cc)
    (λ b.
    let f : Ok (occurs e₀ u₀ (k + 1) next) ≡ Ok (occurs e u code n) = rw (t, b) at q in
    let x : e₀ ≡ e = cc in
    let y : u₀ ≡ u = cc in
    (record { k = k; ranged = rw (← x, ← y) (ranged E U e₀ u₀ k t); code_is = cc; after = rw (← x, ← y) b }, cc)))
    (λ t. test (not_after e₀ u₀ e' u') (λ b. cc (simp (t, b) at q)) (λ b. cc (simp (t, b) at q)))

last_said : (E U e' u' at next : ℕ) (en : Option Entry) {m n : ℕ} → turn_said E U e' u' at next en ≡ Ok (ends m n) → (en ≡ Some (End m)) × (next ≡ n)
last_said E U e' u' at next None q = cc
last_said E U e' u' at next (Some (End m)) q = (cc, cc)
last_said E U e' u' at next (Some (Occurs o)) {m} {n} q =
    let e = o.equation in let u = o.unknown in let k = o.order in
    test (in_range E U e u k)
    (λ t. test (not_after e u e' u') (λ b. cc (simp (t, b) at q)) (λ b. cc (simp (t, b) at q)))
    (λ t. test (not_after e u e' u') (λ b. cc (simp (t, b) at q)) (λ b. cc (simp (t, b) at q)))

-- where a line that was taken ends
pub record Onward (s : List ℕ) (at next : ℕ) : Type 0 where
  pub more : at < next
  pub room : next ≤ length s
  pub on : behind (lines_of (drop at s)) ≡ lines_of (drop next s)

onward : {s : List ℕ} {at e n : ℕ} → LineFound s at e → e + 1 ≡ n → Onward s at n
onward {s} k z =
    let a = k.from in
    let b = k.room in
    record { more = omega arith; room = omega arith; on = behind_found k ∙ ap (λ i. lines_of (drop i s)) z }

pub turn_next : (s : List ℕ) (E U e' u' at : ℕ) {e u code n : ℕ} → turn_of E U e' u' at (lines_of (drop at s)) ≡ Ok (occurs e u code n)
    → Taking E U e' u' e u code × Onward s at n
turn_next s E U e' u' at {e} {u} {code} {n} q = go (end_of at (lines_of (drop at s))) refl
  where
    go : (l : Option ℕ) → end_of at (lines_of (drop at s)) ≡ l → Taking E U e' u' e u code × Onward s at n
    go None w = cc (turn_none at E U e' u' (lines_of (drop at s)) w)
    go (Some f) w =
        let k = found s at f w in
        let t = taking E U e' u' at (f + 1) (entry_of (take (f - at) (drop at s))) (turn_found k E U e' u' ∙ q) in
        (t.0, onward k t.1)

pub turn_last : (s : List ℕ) (E U e' u' at : ℕ) {m n : ℕ} → turn_of E U e' u' at (lines_of (drop at s)) ≡ Ok (ends m n) → Onward s at n
turn_last s E U e' u' at {m} {n} q = go (end_of at (lines_of (drop at s))) refl
  where
    go : (l : Option ℕ) → end_of at (lines_of (drop at s)) ≡ l → Onward s at n
    go None w = cc (turn_none at E U e' u' (lines_of (drop at s)) w)
    go (Some e) w =
        let k = found s at e w in
        onward k (last_said E U e' u' at (e + 1) (entry_of (take (e - at) (drop at s))) (turn_found k E U e' u' ∙ q)).1

-- ---- the lines one after another

module _ (name : List ℕ) (E U : ℕ) where
  -- a line, and those behind it
  collected_turn : (n e' u' : ℕ) (t : List ℕ) (at : ℕ) (ls : Lines)
      → collected name E U n e' u' t at ls ≡ from_turn name E U n t at (turn_of E U e' u' at ls) (behind ls)
      (λ e u t next. collected name E U (n + 1) e u t next (behind ls))
  collected_turn n e' u' t at none = refl
  collected_turn n e' u' t at (cut l) = refl
  collected_turn n e' u' t at (line l rest) = refl

  -- bytes behind the end line
  pub finished_more : (t : List ℕ) (at : ℕ) (x : List ℕ) → 0 < length x → finished name E U t at (lines_of x) ≡ refused (refused_at Shape at)
  finished_more t at [] h = absurd (omega arith)
  finished_more t at (b ∷ x) h = test (eqb b LF) (λ q. rw q) (λ q. rw q (go (lines_of x)))
    where
      go : (ls : Lines) → finished name E U t at (grown b ls) ≡ refused (refused_at Shape at)
      go none = refl
      go (cut l) = refl
      go (line l rest) = refl

-- what the loop keeps: the answer is that of the lines from here on, with what was read so far
pub record Collecting (s : List ℕ) (E U from : ℕ) (t : List ℕ) (e u n at : ℕ) : Type 0 where
  pub sized : length t ≡ limit * limit
  pub room : at ≤ length s
  pub fewer : n ≤ at
  pub same : (name : List ℕ) → list_of name E U from (lines_of (drop from s)) ≡ collected name E U n e u (take (E * U) t) at (lines_of (drop at s))

pub collecting_start : (s : List ℕ) (E U from : ℕ) → in_limits E U ≡ true → from ≤ length s → Collecting s E U from (replicate (limit * limit) 0) 0 0 0 from
collecting_start s E U from h r =
    record {
      sized = length-replicate {A = ℕ} (limit * limit) 0;
      room = r;
      fewer = omega arith;
      same = λ name. rw
          (take-replicate {X = ℕ} (E * U) (limit * limit) 0 (cells_within E U h));
    }

module _ {s : List ℕ} {E U from : ℕ} {t : List ℕ} {e' u' n at : ℕ} (k : Collecting s E U from t e' u' n at) where
  pub collecting_next : {e u code next : ℕ} → turn_of E U e' u' at (lines_of (drop at s)) ≡ Ok (occurs e u code next)
      → Collecting s E U from (set t (cell U e u) code) e u (n + 1) next
  collecting_next {e} {u} {code} {next} q =
      let w = turn_next s E U e' u' at q in
      let m : at < next = w.1.more in
      let f : n ≤ at = k.fewer in
      record {
        sized = length-set t (cell U e u) code ∙ k.sized;
        room = w.1.room;
        fewer = omega arith;
        same = λ name.
            k.same name
            ∙ collected_turn name E U n e' u' (take (E * U) t) at (lines_of (drop at s))
            ∙ rw (q, w.1.on, take-set-lt (E * U) t (cell U e u) code (cell_within w.0.ranged));
      }

  module _ {m next : ℕ} (q : turn_of E U e' u' at (lines_of (drop at s)) ≡ Ok (ends m next)) where
    ending : (name : List ℕ) → list_of name E U from (lines_of (drop from s))
        ≡ pick (eqb m n) (finished name E U (take (E * U) t) next (lines_of (drop next s))) (refused (refused_at EndNumber at))
    ending name =
        let w = turn_last s E U e' u' at q in
        k.same name
        ∙ collected_turn name E U n e' u' (take (E * U) t) at (lines_of (drop at s))
        ∙ rw (q, w.on)

    -- a card that is refused at its end
    pub collecting_wrong : {r : Refused} → end_said (length s) m n at next ≡ Err r → ListRead s E U from (Err r)
    collecting_wrong {r} p =
        record {
          same = λ name. ending name
              ∙ test (eqb m n)
              (λ h. test (ltb next (length s))
              (λ l. let f : Err (refused_at Shape next) ≡ Err r = rw (h, l) at p in
              rw h (finished_more name E U (take (E * U) t) next (drop next s) (rw length-drop (omega (arith, ltb-true))) ∙ ap refused cc))
              (λ l. let f : Ok tt ≡ Err r = rw (h, l) at p in cc))
              (λ h. let f : Err (refused_at EndNumber at) ≡ Err r = rw h at p in rw h (ap refused cc));
          sized = tt;
        }

    -- a good one
    pub collecting_end : end_said (length s) m n at next ≡ Ok tt → ListRead s E U from (Ok t)
    collecting_end p =
        record {
          same = λ name. ending name
              ∙ test (eqb m n)
              (λ h. test (ltb next (length s))
              (λ l. let f : Err (refused_at Shape next) ≡ Ok tt = rw (h, l) at p in cc)
              (λ l. rw (h, drop_of_length-le s (ltb-false next (length s) l))))
              (λ h. let f : Err (refused_at EndNumber at) ≡ Ok tt = rw h at p in cc);
          sized = k.sized;
        }
