-- The first full pairing, step by step: whether an equation can have an unknown while those before it keep theirs.
-- The equation gives up what it holds and asks the unknown's holder to move on, those up to it being asked already. If the holder finds another, that is a full
-- pairing; if not, no full pairing keeps what those before hold and gives the unknown to the equation (Hall).
use mathlib.Core.Path.{◌≡◌, refl, sym, ap, ◌∙◌}
use mathlib.Core.Bool.{Bool, true, false}
use mathlib.Core.List.{List}
use Prim.Native.Nat.{ℕ, suc, ◌-◌, ◌<◌, ◌≤◌}
use native.Mathlib.Omega.{arith}
use lib.Dec.{eqb, ltb}
use lib.ListN.{length, set, length-set}
use lib.Seq.{get_or-set_same, get_or-set_other}
use borrow.Author.Tests.{eqb-true, eqb-false, eq-eqb, lt-ltb, ltb-true}
use Rattle.laws.specs.Marks.{marked}
use Rattle.laws.specs.Tab.{tab}
use Rattle.laws.proofs.Tests.{test, tests, given, clash, true≢false, not_true}
use Rattle.laws.proofs.Tab.{get_or_tab, get_or_past}
use Rattle.table.specs.Model.{limit}
use Rattle.std.specs.Option.{MatchOption}
use Rattle.std.specs.Bool.{then_some}
use Rattle.std.specs.declared.option.Option.{Option}
use Rattle.std.specs.declared.option.Option.TheVariants.{None}
use Rattle.table.specs.Number.{or_zero, equation_number}
use Rattle.table.specs.declared.number.Equation.{Equation}
use Rattle.pairing.specs.Pairing.{Rel, Full}
use Rattle.pairing.specs.Holders.{holder, held, Asking, Found, Nothing}
use Rattle.pairing.specs.Choosing.{HeldBy, Keeps, Tried}
use Rattle.pairing.proofs.Sizes.{full_turned}
use Rattle.pairing.proofs.Give.{Given}
use Rattle.pairing.proofs.Searching.{giving, asks, moves}
use Rattle.pairing.proofs.Hall.{refuted}

-- the equations before place k, as marks
abbrev pub marks : ℕ → List Bool
marks k = tab limit (λ i. ltb i k)

pub marks_are : (k i : ℕ) → marked (marks k) i ≡ true → i < k
marks_are k i t = test (ltb i limit)
    (λ b. ltb-true i k (sym (get_or_tab limit (λ x. ltb x k) i false (ltb-true i limit b)) ∙ t))
    (λ b. clash t (get_or_past limit (λ x. ltb x k) i false (omega (arith, tests))))

pub are_marks : (k i : ℕ) → k ≤ limit → i < k → marked (marks k) i ≡ true
are_marks k i l b = get_or_tab limit (λ x. ltb x k) i false (omega arith) ∙ lt-ltb i k b

-- what e holds is the unknown found
pub owns : {n : ℕ} {edge : Rel} {h : List (Option Equation)} {e w : ℕ} → Full n n edge (held h) → e < n → HeldBy n h e w → (w ≡ 0 → ⊥) × ((w - 1 < n) × (held h e (w - 1) ≡ true))
owns {e = e} {w = w} full l x =
    let ne : w ≡ 0 → ⊥ = λ z. given (full.every e l) (λ (v, t). x.none z v (full.ok.col e v t) t) in
    (ne, x.hit ne)

-- k is h without e's unknown w
record Released (h k : List (Option Equation)) (w : ℕ) : Type 0 where
  pub cases : (i v : ℕ) → held k i v ≡ true → (v ≡ w → ⊥) × (held h i v ≡ true)
  pub other : (i v : ℕ) → (v ≡ w → ⊥) → held h i v ≡ true → held k i v ≡ true

releasing : (h : List (Option Equation)) (w : ℕ) (x : Option Equation) → w < length h → or_zero equation_number x ≡ 0 → Released h (set h w x) w
releasing h w x b z = record {
  cases = λ i v t. test (eqb v w)
      (λ q. absurd (gone i v (eqb-true v w q) t))
      (λ q. (eqb-false v w q, rw (stays v (eqb-false v w q)) at t));
  other = λ i v ne t. rw (stays v ne) t;
}
  where
    stays : (v : ℕ) → (v ≡ w → ⊥) → holder (set h w x) v ≡ holder h v
    stays v ne = ap (or_zero equation_number) (get_or-set_other h w v x None ne)

    gone : (i v : ℕ) → v ≡ w → held (set h w x) i v ≡ true → ⊥
    gone i v q t =
        let y = eqb-true (holder (set h w x) v) (suc i) t in
        let o = rw q at y in
        let n = ap (or_zero equation_number) (get_or-set_same h w x None b) in
        omega arith

module _ {n : ℕ} {edge : Rel} {h k : List (Option Equation)} {e w : ℕ} (full : Full n n edge (held h)) (l : e < n) (ln : n ≤ limit) (own : held h e w ≡ true) (r : Released h k w) where
  -- having given up its unknown, e may search as if those before it were asked
  may_ask : Asking n n edge e (marks e) k
  may_ask = record {
    equations = ln;
    unknowns = ln;
    asker = l;
    fresh = not_true (λ t. let z = marks_are e e t in omega arith);
    free = λ v t. given (r.cases e v t) (λ (ne, x). ne (full.ok.one_u e v w x own));
    ok = record {
      row = λ i v t. full.ok.row i v (r.cases i v t).1;
      col = λ i v t. full.ok.col i v (r.cases i v t).1;
      fits = λ i v t. full.ok.fits i v (r.cases i v t).1;
      one_u = λ i v x s t. full.ok.one_u i v x (r.cases i v s).1 (r.cases i x t).1;
      one_e = λ i j v s t. full.ok.one_e i j v (r.cases i v s).1 (r.cases j v t).1;
    };
  }

  -- the others hold what they held
  others : (i v : ℕ) → (i ≡ e → ⊥) → held h i v ≡ true → held k i v ≡ true
  others i v ne t = r.other i v (λ q. ne (full.ok.one_e i e w (rw q at t) own)) t

  -- the holder g of u was asked to move on
  module _ {g u : ℕ} (k' : List (Option Equation)) (ed : edge e u ≡ true) (hg : held h g u ≡ true) (later : e < g) (gv : Given (held k) (held k') e u) where
    holds : held k g u ≡ true
    holds = others g u (λ q. absurd (omega arith)) hg

    fresh : marked (marks (suc e)) g ≡ false
    fresh = not_true (λ t. let z = marks_are (suc e) g t in omega arith)

    holder_asks : Asking n n edge g (marks (suc e)) k'
    holder_asks = asks may_ask ed holds fresh gv

    moved : {k'' : List (Option Equation)} → Found n n edge g (marks (suc e)) k' k'' → Found n n edge e (marks e) k k'' × (held k'' e u ≡ true)
    moved f = moves may_ask holds fresh
        (are_marks (suc e) e (omega arith) (omega arith), λ i t. let z = marks_are e i t in are_marks (suc e) i (omega arith) (omega arith)) gv f

    tried_found : {k'' : List (Option Equation)} → Found n n edge g (marks (suc e)) k' k'' → Tried n edge e u h true k''
    tried_found s = record {
      yes = λ t. given (moved s) (λ (f, has). (
        record {
          ok = f.ok;
          every = λ i b. test (eqb i e) (λ q. rw (eqb-true i e q) f.gained)
              (λ q. given (full.every i b) (λ (v, x). f.kept i (v, others i v (eqb-false i e q) x)));
        },
        has,
        λ i v b x. f.untouched i v (are_marks e i (omega arith) b) (others i v (λ q. absurd (omega arith)) x),
      ));
      no = λ t. absurd (true≢false t);
    }

    tried_nothing : {b : List Bool} → Nothing n edge g (marks (suc e)) b k' → Tried n edge e u h false h
    tried_nothing s = record {
      yes = λ t. absurd (true≢false (sym t));
      no = λ t q keep same. refuted holder_asks s q keep.ok (λ i m.
          let z = marks_are (suc e) i m in
          test (eqb i e)
          (λ p. rw (eqb-true i e p) (rw same gv.here))
          (λ p. gv.other i (q i) (λ o. given_away q keep i (omega (arith, tests)) o)
          (others i (q i) (eqb-false i e p) (keep.agrees i (omega (arith, tests))))));
    }
      where
        given_away : (q : ℕ → ℕ) → Keeps n edge h e q → (i : ℕ) → i < e → q i ≡ u → ⊥
        given_away q keep i b o = let z = full.ok.one_e i g u (rw o at (keep.agrees i b)) hg in omega arith

-- what is known when the holder of u is asked to move on: e, which is x, holds w, and an equation after it holds u
pub record Asked (n : ℕ) (edge : Rel) (h : List (Option Equation)) (e u w : ℕ) (x : Option Equation) : Type 0 where
  pub full : Full n n edge (held h)
  pub limits : n ≤ limit
  pub equation : e < n
  pub unknown : u < n
  pub all : length h ≡ limit
  pub number : or_zero equation_number x ≡ suc e
  pub occurs : edge e u ≡ true
  pub own : held h e w ≡ true
  pub later : suc e < holder h u

module _ {n : ℕ} {edge : Rel} {h : List (Option Equation)} {e u w : ℕ} {x : Option Equation} (a : Asked n edge h e u w x) where
  -- w given up, u taken
  abbrev pub swapped : List (Option Equation)
  swapped = set (set h w None) u x

  released : Released h (set h w None) w
  released = let l = a.full.ok.col e w a.own in let b = a.limits in releasing h w None (rw a.all (omega arith)) refl

  taken : Given (held (set h w None)) (held swapped) e u
  taken = giving (set h w None) e u x (within a.all a.unknown a.limits) a.number
    where
      within : length h ≡ limit → u < n → n ≤ limit → u < length (set h w None)
      within q b l = rw (length-set h w None) (omega arith)

  by : held h (holder h u - 1) u ≡ true
  by = let l = a.later in eq-eqb (holder h u) (suc (holder h u - 1)) (omega arith)

  after : e < holder h u - 1
  after = let l = a.later in omega arith

  pub swapped_asks : Asking n n edge (holder h u - 1) (marks (suc e)) swapped
  swapped_asks = holder_asks a.full a.equation a.limits a.own released swapped a.occurs by after taken

  pub swapped_found : {k : List (Option Equation)} → Found n n edge (holder h u - 1) (marks (suc e)) swapped k → Tried n edge e u h true k
  swapped_found = tried_found a.full a.equation a.limits a.own released swapped a.occurs by after taken

  pub swapped_nothing : {b : List Bool} → Nothing n edge (holder h u - 1) (marks (suc e)) b swapped → Tried n edge e u h false h
  swapped_nothing = tried_nothing a.full a.equation a.limits a.own released swapped a.occurs by after taken

-- e, or an equation before it, holds the unknown
pub tried_held : {n : ℕ} {edge : Rel} {e u : ℕ} {h : List (Option Equation)} {x : ℕ} → Full n n edge (held h) → e < n → u < n → x ≡ suc e → holder h u ≤ x
    → Tried n edge e u h (eqb (holder h u) x) h
tried_held {n} {edge} {e} {u} {h} {x} full l b number le = rw number (record {
  yes = λ t. (full, t, λ i v c x. x);
  no = λ t q keep same. given ((full_turned refl full).every u b) (λ (i, x).
      let y = eqb-true (holder h u) (suc i) x in
      let before : i < e = earlier i y (eqb-false (holder h u) (suc e) t) in
      let z = full.ok.one_u i (q i) u (keep.agrees i before) x in
      let w = keep.ok.own i e (full.ok.row i u x) l (z ∙ sym same) in
      omega arith);
})
  where
    earlier : (i : ℕ) → holder h u ≡ suc i → (holder h u ≡ suc e → ⊥) → i < e
    earlier i y ne = omega arith

-- what was tried, as it is handed out: the pairing where e can have u, and none where it cannot
pub tried_is : {n : ℕ} {edge : Rel} {e u : ℕ} {h k : List (Option Equation)} (done : Bool) → Tried n edge e u h done k
    → MatchOption (then_some done k) (Tried n edge e u h false h) (λ after. Tried n edge e u h true after)
tried_is true t = t
tried_is false t = record { yes = λ z. absurd (true≢false (sym z)); no = t.no }
