-- Laws of the lines: a line that was found is the first of those from its place on, and what each line due comes to when it is not there.
use mathlib.Core.Path.{◌≡◌, refl, ap, sym, ◌∙◌}
use mathlib.Core.Bool.{true, false}
use mathlib.Core.List.{List, [], ◌∷◌}
use Prim.Native.Nat.{ℕ, suc, ◌+◌, ◌-◌, ◌≤◌, ◌<◌}
use native.Mathlib.Omega.{arith}
use lib.Dec.{eqb}
use lib.ListN.{length, take, drop, length-drop, length-take}
use lib.Seq.{drop-drop, length-take-le}
use Rattle.laws.proofs.Tests.{test}
use Rattle.table.specs.Model.{counted_in}
use Rattle.card.specs.Text.{LF, rig_key, equations_key, unknowns_key, begins, Lines, none, cut, line, grown, lines_of}
use Rattle.std.specs.Prelude.{Option, None, Some, Result, Ok, Err}
use Rattle.std.specs.Option.{ok_or}
use Rattle.card.specs.Refusal.{refused_at}
use Rattle.card.specs.declared.refusal.Refusal.TheVariants.{Shape, Name, Limits}
use Rattle.card.specs.declared.refusal.Refused.{Refused}
use Rattle.card.specs.Entry.{good_name, value_of, entry_of}
use Rattle.card.specs.Card.{refused, behind, rig_of, count_said, count_of, turn_said, turn_of, list_of, headed, judged}
use Rattle.card.specs.Steps.{end_of}
use Rattle.card.proofs.TextLaws.{end_grown}
use Rattle.card.proofs.EntryLaws.{begins_length}

-- a line that ends at e and starts at `at`: the first of a text x
record FirstEnd (x : List ℕ) (at e : ℕ) : Type 0 where
  from : at ≤ e
  room : e - at < length x
  is : lines_of x ≡ line (take (e - at) x) (lines_of (drop (e - at + 1) x))

first : (x : List ℕ) (at e : ℕ) → end_of at (lines_of x) ≡ Some e → FirstEnd x at e
first [] at e p = cc
first (b ∷ x) at e p =
    test (eqb b LF)
    (λ t.
    let q : Some (at + 0) ≡ Some e = rw t at p in
    let z : at + 0 ≡ e = cc in
    let d : e - at ≡ 0 = omega arith in
    record { from = omega arith; room = omega arith; is = rw (t, d) })
    (λ f.
    let q : end_of at (grown b (lines_of x)) ≡ Some e = rw f at p in
    let k = first x (at + 1) e (sym (end_grown b at (lines_of x)) ∙ q) in
    let a : at + 1 ≤ e = k.from in
    let d : e - at ≡ suc (e - (at + 1)) = omega arith in
    let g : suc (e - (at + 1)) + 1 ≡ suc (e - (at + 1) + 1) = omega arith in
    record { from = omega arith; room = omega (arith, k.room); is = rw (f, d, g, k.is) })

-- the same in a card s
pub record LineFound (s : List ℕ) (at e : ℕ) : Type 0 where
  pub from : at ≤ e
  pub room : e < length s
  pub is : lines_of (drop at s) ≡ line (take (e - at) (drop at s)) (lines_of (drop (e + 1) s))
  pub long : length (take (e - at) (drop at s)) ≡ e - at

pub found : (s : List ℕ) (at e : ℕ) → end_of at (lines_of (drop at s)) ≡ Some e → LineFound s at e
found s at e p =
    let k = first (drop at s) at e p in
    let f : at ≤ e = k.from in
    let r : e - at < length s - at = rw length-drop at k.room in
    let z : at + (e - at + 1) ≡ e + 1 = omega arith in
    record {
      from = f;
      room = omega arith;
      is = k.is ∙ ap (λ x. line (take (e - at) (drop at s)) (lines_of x)) (drop-drop (e - at + 1) at s ∙ ap (λ n. drop n s) z);
      long = length-take (e - at) (drop at s) ∙ (rw length-drop (omega arith));
    }

-- what stands in an Option that was asked for
pub asked : {A : Type 0} (v : Option A) (r : Refused) {q : Result A Refused} {a : A} → q ≡ ok_or v r → q ≡ Ok a → v ≡ Some a
asked None r b c = cc
asked (Some f) r b c = cc

pub missed : {A : Type 0} (v : Option A) (r : Refused) {q : Result A Refused} {m : Refused} → q ≡ ok_or v r → q ≡ Err m → (v ≡ None) × (r ≡ m)
missed None r b c = (refl, cc)
missed (Some f) r b c = cc

-- a line that was due, and is there
pub due : (s : List ℕ) (at e : ℕ) {q : Result ℕ Refused} → q ≡ ok_or (end_of at (lines_of (drop at s))) (refused_at Shape at) → q ≡ Ok e → LineFound s at e
due s at e a b = found s at e (asked (end_of at (lines_of (drop at s))) (refused_at Shape at) a b)

-- ---- a line that is not there, or has no LF

module _ (at : ℕ) where
  pub rig_none : (ls : Lines) → end_of at ls ≡ None → Err (refused_at Shape 0) ≡ rig_of ls
  rig_none none p = refl
  rig_none (cut l) p = refl
  rig_none (line l rest) p = cc

  pub count_none : (key : List ℕ) (ls : Lines) → end_of at ls ≡ None → Err (refused_at Shape at) ≡ count_of key at ls
  count_none key none p = refl
  count_none key (cut l) p = refl
  count_none key (line l rest) p = cc

  pub turn_none : (E U e u : ℕ) (ls : Lines) → end_of at ls ≡ None → Err (refused_at Shape at) ≡ turn_of E U e u at ls
  turn_none E U e u none p = refl
  turn_none E U e u (cut l) p = refl
  turn_none E U e u (line l rest) p = cc

-- ---- a line that is there

module _ {s : List ℕ} {at e : ℕ} (k : LineFound s at e) where
  next_place : at + length (take (e - at) (drop at s)) + 1 ≡ e + 1
  next_place = let f : at ≤ e = k.from in rw k.long (omega arith)

  pub count_found : (key : List ℕ) → count_said at (e + 1) (value_of key (take (e - at) (drop at s))) ≡ count_of key at (lines_of (drop at s))
  count_found key = rw (k.is, next_place)

  pub turn_found : (E U e' u' : ℕ) → turn_said E U e' u' at (e + 1) (entry_of (take (e - at) (drop at s))) ≡ turn_of E U e' u' at (lines_of (drop at s))
  turn_found E U e' u' = rw (k.is, next_place)

  pub behind_found : behind (lines_of (drop at s)) ≡ lines_of (drop (e + 1) s)
  behind_found = rw k.is

-- ---- the rig line

module _ (s : List ℕ) {e : ℕ} (k : LineFound s 0 e) where
  pub rig_line : lines_of s ≡ line (take e s) (lines_of (drop (e + 1) s))
  rig_line = let z : e - 0 ≡ e = omega arith in rw z at k.is

  rig_long : length (take e s) ≡ e
  rig_long = let h = k.room in length-take-le e s (omega arith)

  pub rig_shape : begins rig_key (take e s) ≡ false → Err (refused_at Shape 0) ≡ rig_of (lines_of s)
  rig_shape h = rw (rig_line, h)

  pub rig_bad : begins rig_key (take e s) ≡ true → good_name (drop (length rig_key) (take e s)) ≡ false → Err (refused_at Name 0) ≡ rig_of (lines_of s)
  rig_bad h n = rw (rig_line, h, n)

  pub rig_good : begins rig_key (take e s) ≡ true → good_name (drop (length rig_key) (take e s)) ≡ true → Ok e ≡ rig_of (lines_of s)
  rig_good h n = rw (rig_line, h, n, rig_long)

-- a rig line that was taken
pub record Rigged (s : List ℕ) (e : ℕ) : Type 0 where
  pub key : length rig_key ≤ e
  pub room : e < length s
  pub is : lines_of s ≡ line (take e s) (lines_of (drop (e + 1) s))
  pub name : good_name (drop (length rig_key) (take e s)) ≡ true

pub rigged : (s : List ℕ) (e : ℕ) → rig_of (lines_of s) ≡ Ok e → Rigged s e
rigged s e p = go (end_of 0 (lines_of s)) refl
  where
    go : (l : Option ℕ) → end_of 0 (lines_of s) ≡ l → Rigged s e
    go None q = cc (rig_none 0 (lines_of s) q)
    go (Some f) q =
        let k = found s 0 f q in
        test (begins rig_key (take f s))
        (λ b. test (good_name (drop (length rig_key) (take f s)))
        (λ n.
        let z : f ≡ e = cc (rig_good s k b n) in
        rw (← z)
        (record {
          key = let l = begins_length rig_key (take f s) b in omega (arith, length-take-le f s (let h = k.room in omega arith));
          room = k.room;
          is = rig_line s k;
          name = n;
        }))
        (λ n. cc (rig_bad s k b n)))
        (λ b. cc (rig_shape s k b))

-- ---- the count lines

-- a count line that was taken
pub record Countable (s : List ℕ) (at n next : ℕ) : Type 0 where
  pub counted : counted_in n ≡ true
  pub more : at < next
  pub room : next ≤ length s
  pub on : behind (lines_of (drop at s)) ≡ lines_of (drop next s)

pub ok_pair : {m n a b : ℕ} → ◌≡◌ {A = Result (ℕ × ℕ) Refused} (Ok (m, a)) (Ok (n, b)) → (m ≡ n) × (a ≡ b)
ok_pair {m} {n} {a} {b} e = let p : ◌≡◌ {A = ℕ × ℕ} (m, a) (n, b) = cc in (ap (λ x. x.0) p, ap (λ x. x.1) p)

pub countable : (s key : List ℕ) (at n next : ℕ) → count_of key at (lines_of (drop at s)) ≡ Ok (n, next) → Countable s at n next
countable s key at n next p = go (end_of at (lines_of (drop at s))) refl
  where
    said : (e : ℕ) → LineFound s at e → (v : Option ℕ) → value_of key (take (e - at) (drop at s)) ≡ v → Countable s at n next
    said e k v q = by v (ap (count_said at (e + 1)) (sym q) ∙ count_found k key ∙ p)
      where
        by : (v : Option ℕ) → count_said at (e + 1) v ≡ Ok (n, next) → Countable s at n next
        by None f = cc
        by (Some m) f =
            test (counted_in m)
            (λ t.
            let (z, y) = ok_pair (rw t at f) in
            let fr = k.from in
            let ro = k.room in
            record { counted = rw z at t; more = omega arith; room = omega arith; on = behind_found k ∙ ap (λ i. lines_of (drop i s)) y })
            (λ t. let g : Err (refused_at Limits at) ≡ Ok (n, next) = rw t at f in cc)

    go : (l : Option ℕ) → end_of at (lines_of (drop at s)) ≡ l → Countable s at n next
    go None q = cc (count_none at key (lines_of (drop at s)) q)
    go (Some e) q = let k = found s at e q in said e k (value_of key (take (e - at) (drop at s))) refl

-- ---- the first three lines together

module _ (s name : List ℕ) (at : ℕ) where
  module _ {E next : ℕ} (first : count_of equations_key at (lines_of (drop at s)) ≡ Ok (E, next)) where
    pub counts_two : {r : Refused} → count_of unknowns_key next (lines_of (drop next s)) ≡ Err r → headed name at (lines_of (drop at s)) ≡ refused r
    counts_two p = let k = countable s equations_key at E next first in rw (first, k.on, p)

    pub counts_three : {U from : ℕ} → count_of unknowns_key next (lines_of (drop next s)) ≡ Ok (U, from)
        → headed name at (lines_of (drop at s)) ≡ list_of name E U from (lines_of (drop from s))
    counts_three {U} {from} p = let k = countable s equations_key at E next first in let l = countable s unknowns_key next U from p in rw (first, k.on, p, l.on)

pub rig_on : (s : List ℕ) {e : ℕ} → rig_of (lines_of s) ≡ Ok e → judged s ≡ headed (drop (length rig_key) (take e s)) (e + 1) (lines_of (drop (e + 1) s))
rig_on s {e} p = let k = rigged s e p in rw (p, k.is)
