-- One search, step by step (DESIGN 4 in code): an unknown changes hands and the pairing stays a pairing; what the asked holder's
-- own search tells is carried over to the asker's.
use mathlib.Core.Path.{◌≡◌, sym, ap, ◌∙◌}
use mathlib.Core.Bool.{Bool, true, false}
use mathlib.Core.List.{List}
use mathlib.Core.Logic.{◌⊎◌, inl, inr}
use Prim.Native.Nat.{ℕ, suc, ◌-◌, ◌<◌, ◌≤◌}
use native.Mathlib.Omega.{arith}
use lib.Dec.{eqb, ltb}
use lib.ListN.{length, get_or, set}
use lib.Seq.{get_or-set_same, get_or-set_other, set-set, set-get_or}
use borrow.Author.Tests.{eqb-true, eqb-false, eq-eqb}
use Rattle.laws.specs.Marks.{marked, falses}
use Rattle.laws.proofs.Tests.{test, tests, either, given, clash}
use Rattle.laws.proofs.Marks.{mark_here, mark_keeps, mark_only, falses_fall}
use Rattle.table.specs.Model.{limit, Numbered}
use Rattle.std.specs.declared.option.Option.{Option}
use Rattle.std.specs.declared.option.Option.TheVariants.{None}
use Rattle.table.specs.Number.{or_zero, equation_number}
use Rattle.table.specs.declared.number.Equation.{Equation}
use Rattle.pairing.specs.Pairing.{Rel}
use Rattle.pairing.specs.Holders.{holder, held, Reach, start, step, Found, Nothing, Asking}
use Rattle.pairing.specs.Looking.{FreeIn, AllHeld, NextIn}
use Rattle.pairing.proofs.Give.{Given, given_pairing}

-- an unknown stored as held by x, which is equation f
pub giving : (h : List (Option Equation)) (f u : ℕ) (x : Option Equation) → u < length h → or_zero equation_number x ≡ suc f → Given (held h) (held (set h u x)) f u
giving h f u x b n = record {
  here = eq-eqb (holder (set h u x) u) (suc f) (same ∙ n);
  cases = λ e v t. test (eqb v u)
      (λ q. inl (eqb-true v u q, who e v (eqb-true v u q) t))
      (λ q. inr (eqb-false v u q, rw (other v (eqb-false v u q)) at t));
  other = λ e v ne t. rw (other v ne) t;
}
  where
    same : holder (set h u x) u ≡ or_zero equation_number x
    same = ap (or_zero equation_number) (get_or-set_same h u x None b)

    other : (v : ℕ) → (v ≡ u → ⊥) → holder (set h u x) v ≡ holder h v
    other v ne = ap (or_zero equation_number) (get_or-set_other h u v x None ne)

    who : (e v : ℕ) → v ≡ u → held (set h u x) e v ≡ true → e ≡ f
    who e v q t = let z = eqb-true (holder (set h u x) v) (suc e) t in let y = rw q at z in omega (arith, same, n)

-- giving it back
pub restored : (h : List (Option Equation)) (u : ℕ) (x : Option Equation) → set (set h u x) u (get_or h u None) ≡ h
restored h u x = set-set h u x (get_or h u None) ∙ set-get_or h u None

module _ {m n : ℕ} {edge : Rel} {f : ℕ} {a : List Bool} {h : List (Option Equation)} where
  -- the asker takes an unknown that nobody holds
  pub takes : {k : List (Option Equation)} {u : ℕ} → Asking m n edge f a h → u < n → edge f u ≡ true → holder h u ≡ 0 → Given (held h) (held k) f u → Found m n edge f a h k
  takes {k} {u} s un ed z g = record {
    ok = given_pairing s.ok s.free s.asker un ed g;
    gained = (u, g.here);
    kept = λ e (v, t). (v, g.other e v (unheld e v t) t);
    none_else = λ e (v, t). either (g.cases e v t) (λ (p, q). inl q) (λ (p, q). inr (v, q));
    untouched = λ e v mk t. g.other e v (unheld e v t) t;
  }
    where
      unheld : (e v : ℕ) → held h e v ≡ true → v ≡ u → ⊥
      unheld e v t q = let y = eqb-true (holder h v) (suc e) t in let w = rw q at y in omega arith

  -- the asker has u, and its former holder g may search
  pub asks : {b : List Bool} {k : List (Option Equation)} {g u : ℕ} → Asking m n edge f a h → edge f u ≡ true → held h g u ≡ true → marked b g ≡ false
      → Given (held h) (held k) f u → Asking m n edge g b k
  asks {b} {k} {g} {u} s ed hg nb gv = record {
    equations = s.equations;
    unknowns = s.unknowns;
    asker = s.ok.row g u hg;
    fresh = nb;
    free = λ v t. either (gv.cases g v t) (λ (p, q). s.free u (rw q at hg)) (λ (p, q). p (s.ok.one_u g v u q hg));
    ok = given_pairing s.ok s.free s.asker (s.ok.col g u hg) ed gv;
  }

  -- the former holder found another: so did the asker
  pub moves : {b : List Bool} {k k' : List (Option Equation)} {g u : ℕ} → Asking m n edge f a h → held h g u ≡ true → marked b g ≡ false
      → marked b f ≡ true × ((e : ℕ) → marked a e ≡ true → marked b e ≡ true) → Given (held h) (held k) f u → Found m n edge g b k k' → Found m n edge f a h k' × (held k' f u ≡ true)
  moves {b} {k} {k'} {g} {u} s hg nb (bf, more) gv r = (
    record {
      ok = r.ok;
      gained = (u, has);
      kept = λ e (v, t). test (eqb v u)
          (λ q. rw (s.ok.one_e e g u (rw (eqb-true v u q) at t) hg) r.gained)
          (λ q. r.kept e (v, gv.other e v (eqb-false v u q) t));
      none_else = λ e t. either (r.none_else e t) (λ q. inr (u, rw q hg))
          (λ (v, w). either (gv.cases e v w) (λ (p, q). inl q) (λ (p, q). inr (v, q)));
      untouched = λ e v mk t. r.untouched e v (more e mk)
          (gv.other e v (λ q. clash (more e mk) (rw (s.ok.one_e e g u (rw q at t) hg) nb)) t);
    },
    has,
  )
    where
      has : held k' f u ≡ true
      has = r.untouched f u bf gv.here

-- every unknown of the asker has a holder, where none was free
pub all_held : {n : ℕ} {edge : Rel} {f : ℕ} {a : List Bool} {h : List (Option Equation)} → Asking limit n edge f a h → {u : ℕ} → u ≡ 0 → FreeIn n edge f h u → AllHeld n edge f h
all_held {n} {edge} {f} {a} {h} s z none v b t =
    let row = s.ok.row (holder h v - 1) v (eq-eqb (holder h v) (suc (holder h v - 1)) (omega (arith, positive))) in
    record { low = positive; high = omega (arith, positive) }
  where
    positive : 1 ≤ holder h v
    positive = let ne = none.none z v b t in omega arith

-- who holds an unknown that has a holder
pub held_by : (h : List (Option Equation)) (v : ℕ) → Numbered (holder h v) → held h (holder h v - 1) v ≡ true
held_by h v n = eq-eqb (holder h v) (suc (holder h v - 1)) (omega arith)

-- the second pass, at the unknown of number u: those asked so far beyond the ones asked at its start are reached, and their unknowns are held by those asked
pub record Turn (n : ℕ) (edge : Rel) (f : ℕ) (h : List (Option Equation)) (a b : List Bool) (u : ℕ) : Type 0 where
  pub more : (e : ℕ) → marked a e ≡ true → marked b e ≡ true
  pub reached : (e : ℕ) → marked b e ≡ true → (marked a e ≡ true) ⊎ Reach edge (held h) f e
  pub closed : (e v : ℕ) → marked b e ≡ true → (marked a e ≡ true → ⊥) → v < n → edge e v ≡ true → (g : ℕ) × (marked b g ≡ true) × (held h g v ≡ true)
  pub next : NextIn n edge f 0 h b u

-- the unknown at place u is the asker's, and its holder was not asked yet
pub record Wanted (n : ℕ) (edge : Rel) (f : ℕ) (h : List (Option Equation)) (b : List Bool) (u : ℕ) : Type 0 where
  pub below : u < n
  pub occurs : edge f u ≡ true
  pub number : Numbered (holder h u)
  pub by : held h (holder h u - 1) u ≡ true
  pub fresh : marked b (holder h u - 1) ≡ false

pub wanted : {n : ℕ} {edge : Rel} {f : ℕ} {h : List (Option Equation)} {b : List Bool} {w : ℕ} → AllHeld n edge f h → NextIn n edge f 0 h b w → (w ≡ 0 → ⊥)
    → (u : ℕ) → u ≡ w - 1 → Wanted n edge f h b u
wanted {h = h} all x ne u q =
    let t = rw (← q) at (x.hit ne) in
    let k = all u t.0 t.1 in
    record { below = t.0; occurs = t.1; number = k; by = held_by h u k; fresh = t.2 }

-- what is reached from the former holder, when the asker has u, is reached from the asker
reach_back : {edge Q R : Rel} {f g u e : ℕ} → edge f u ≡ true → Q g u ≡ true → Given Q R f u → Reach edge R g e → Reach edge Q f e
reach_back {u = u} ed hg gv start = step u start ed hg
reach_back ed hg gv (step {e = e} v r t w) =
    either (gv.cases e v w) (λ (p, q). rw q start) (λ (p, q). step v (reach_back ed hg gv r) t q)

module _ {n : ℕ} {edge : Rel} {f : ℕ} {h : List (Option Equation)} {a : List Bool} where
  pub turn_start : {u : ℕ} → NextIn n edge f 0 h a u → Turn n edge f h a a u
  turn_start x = record { more = λ e t. t; reached = λ e t. inl t; closed = λ e v t ne. absurd (ne t); next = x }

  -- the former holder found nothing and has u back; the next unknown is looked for behind u
  pub turn_next : {b b' : List Bool} {k : List (Option Equation)} {g u w w' : ℕ} → w ≡ suc u → Turn n edge f h a b w → edge f u ≡ true → held h g u ≡ true
      → Given (held h) (held k) f u → Nothing n edge g b b' k → NextIn n edge f (suc u) h b' w' → Turn n edge f h a b' w'
  turn_next {b} {b'} {k} {g} {u} {w} {w'} wu t ed hg gv r x = record {
    more = λ e m. r.more e (t.more e m);
    reached = λ e m. either (r.reached e m) (λ o. t.reached e o) (λ o. inr (reach_back ed hg gv o));
    closed = λ e v m na l d. test (marked b e)
        (λ o. given (t.closed e v o na l d) (λ (y, p, q). (y, r.more y p, q)))
        (λ o. given (r.closed e v m (λ o'. clash o' o) l d) (λ (y, p, q). either (gv.cases y v q)
        (λ (p', q'). (g, r.self, rw p' hg))
        (λ (p', q'). (y, p, q'))));
    next = record {
      hit = x.hit;
      passed = λ v l s d. before v d (λ l'. x.passed v l' s d);
      none = λ z v l s d. before v d (λ l'. x.none z v l' s d);
    };
  }
    where
      -- below u by the pass so far, at u by the former holder, behind it by the rest
      before : (v : ℕ) → edge f v ≡ true → (suc u ≤ v → marked b' (holder h v - 1) ≡ true) → marked b' (holder h v - 1) ≡ true
      before v d behind = test (ltb v u)
          (λ q. r.more (holder h v - 1) (t.next.passed v (omega arith) (omega (arith, tests)) d))
          (λ q. test (eqb v u)
          (λ q'. let y = eqb-true (holder h u) (suc g) hg in
          let z : holder h v - 1 ≡ g = rw (eqb-true v u q') (omega arith) in
          rw z r.self)
          (λ q'. behind (omega (arith, tests))))

-- the second pass came to its end: the search found nothing
pub ends : {n : ℕ} {edge : Rel} {f : ℕ} {h : List (Option Equation)} {a b : List Bool} {w : ℕ} → f < length a → w ≡ 0 → AllHeld n edge f h
    → Turn n edge f h (set a f true) b w → Nothing n edge f a b h
ends {n} {edge} {f} {h} {a} {b} l z held_All t = record {
  self = t.more f (mark_here a f l);
  more = λ e m. t.more e (mark_keeps a f e m);
  reached = λ e m. either (t.reached e m) (λ o. either (mark_only a f e o) (λ q. inr (rw q start)) (λ o'. inl o')) (λ o. inr o);
  closed = λ e v m na b' d. test (eqb e f)
      (λ q. let d' = rw (eqb-true e f q) at d in
      (holder h v - 1, t.next.none z v (omega arith) b' d', held_by h v (held_All v b' d')))
      (λ q. t.closed e v m (λ o. either (mark_only a f e o) (eqb-false e f q) na) b' d);
}

-- the asker, and whoever was asked before, is among those asked
pub turn_asked : {n : ℕ} {edge : Rel} {f : ℕ} {h : List (Option Equation)} (a : List Bool) {b : List Bool} {w : ℕ} → f < length a → Turn n edge f h (set a f true) b w
    → (marked b f ≡ true) × ((e : ℕ) → marked a e ≡ true → marked b e ≡ true)
turn_asked {f = f} a l t = (t.more f (mark_here a f l), λ e m. t.more e (mark_keeps a f e m))

-- fewer are left to ask than before the search
pub fewer : {n : ℕ} {edge : Rel} {f : ℕ} {h : List (Option Equation)} (a : List Bool) {b : List Bool} {w : ℕ} → length a ≡ limit → length b ≡ limit → f < limit → marked a f ≡ false
    → Turn n edge f h (set a f true) b w → falses b < falses a
fewer {f = f} a {b = b} la lb l fresh t =
    given (turn_asked a (rw la l) t) (λ (self, more). falses_fall a b (la ∙ sym lb) more f fresh self)

-- what is asked of fewer equations is asked of as many as there may be
pub widen : {m n : ℕ} {edge : Rel} {f : ℕ} {a : List Bool} {h : List (Option Equation)} → Asking m n edge f a h → Asking limit n edge f a h
widen s = record {
  equations = omega arith;
  unknowns = s.unknowns;
  asker = omega arith;
  fresh = s.fresh;
  free = s.free;
  ok = record {
    row = λ e u t. let r = s.ok.row e u t in omega arith;
    col = s.ok.col;
    fits = s.ok.fits;
    one_u = s.ok.one_u;
    one_e = s.ok.one_e;
  };
}
