-- `search::search`: the first pass finds a free unknown; the second asks the holders in turn. What falls is the number of those not asked.
-- The steps are the laws of proofs/Searching: takes, asks, moves, turn_start, turn_next, ends.
use mathlib.Core.Path.{◌≡◌, sym, ap, subst, ◌∙◌}
use mathlib.Core.Bool.{true, false}
use Prim.Native.Nat.{ℕ, suc, ◌-◌, ◌<◌}
use native.Mathlib.Numerals.{add-one}
use native.Mathlib.Omega.{arith}
use lib.ListN.{length, set, get_or}
use borrow.Author.Rules.{rules}
use Rattle.std.proofs.lemmas.List.{get_or_default}
use Rattle.std.specs.declared.option.Option.TheVariants.{None, Some}
use Rattle.laws.specs.Marks.{marked}
use Rattle.laws.proofs.Marks.{falses_fall}
use Rattle.table.specs.Model.{limit, occurs_at}
use Rattle.table.specs.Number.{equation_number, unknown_number, or_zero}
use Rattle.table.specs.declared.number.Equation.{Equation}
use Rattle.pairing.specs.Holders.{held}
use Rattle.pairing.specs.Looking.{AllHeld}
use Rattle.pairing.proofs.Give.{Given}
use Rattle.pairing.proofs.Searching.{Wanted, wanted, giving, restored, takes, asks, moves, all_held, turn_next, ends, fewer, turn_asked}
use Rattle.pairing.proofs.search.+search.Goals as goal
use Rattle.pairing.proofs.search.+search.Goals.{After-unwrap-holder}

-- a number's place is one less
one-more : (e : Equation) → equation_number e ≡ suc (equation_number e - 1)
one-more e = let p = e.0.ok in omega arith

-- the wanted unknown and its holder
wants : (t : ℕ) (c : After-unwrap-holder t) → Wanted c.args.table.now.unknowns (occurs_at c.args.table.now.rows) (equation_number c.args.asker - 1) c.args.holders c.loop-wanted.asked c.place-place.result
wants t c =
    let number = ap (or_zero unknown_number) c.in-Some-wanted.is in
    let positive = c.in-Some-wanted.got.0.ok in
    wanted (all_held c.requires (ap (or_zero unknown_number) c.in_default.is) c.free_unknown.ensures)
    c.loop-wanted.invariant.1.next (λ z. omega arith) c.place-place.result (rw number c.place-place.ensures)

here : (t : ℕ) (c : After-unwrap-holder t) → get_or c.args.holders c.place-place.result None ≡ Some c.unwrap-holder.result
here t c =
    let w = wants t c in let s = c.requires in
    let b : c.place-place.result < length c.args.holders = omega (arith, w.below, s.unknowns) in
    get_or_default c.args.holders c.place-place.result None c.index-holders-place.result b ∙ (rw c.loop-wanted.invariant.0 at c.unwrap-holder.ensures)

by : (t : ℕ) (c : After-unwrap-holder t) → held c.args.holders (equation_number c.unwrap-holder.result - 1) c.place-place.result ≡ true
by t c = rw (← ap (or_zero equation_number) (here t c)) (wants t c).by

fresh : (t : ℕ) (c : After-unwrap-holder t) → marked c.loop-wanted.asked (equation_number c.unwrap-holder.result - 1) ≡ false
fresh t c = rw (← ap (or_zero equation_number) (here t c)) (wants t c).fresh

asked-at : (t : ℕ) (c : After-unwrap-holder t) → (marked c.loop-wanted.asked (equation_number c.args.asker - 1) ≡ true)
    × ((e : ℕ) → marked c.args.asked e ≡ true → marked c.loop-wanted.asked e ≡ true)
asked-at t c = turn_asked c.args.asked (search rules) (rw c.place.ensures at c.loop-wanted.invariant.1)

-- the wanted unknown, given to the asker
given-at : (t : ℕ) (c : After-unwrap-holder t) → Given (held c.args.holders) (held (set c.args.holders c.place-place.result (Some c.args.asker)))
    (equation_number c.args.asker - 1) c.place-place.result
given-at t c =
    let w = wants t c in let s = c.requires in
    let b : c.place-place.result < length c.args.holders = omega (arith, w.below, s.unknowns) in
    giving c.args.holders (equation_number c.args.asker - 1) c.place-place.result (Some c.args.asker) b (one-more c.args.asker)

-- and given back
back : (t : ℕ) (c : After-unwrap-holder t) → set (set c.loop-wanted.holders c.place-place.result (Some c.args.asker)) c.place-place.result (Some c.unwrap-holder.result) ≡ c.args.holders
back t c = rw (c.loop-wanted.invariant.0, ← here t c) (restored c.args.holders c.place-place.result (Some c.args.asker))

pub returns-in-Some : goal.returns-in-Some
returns-in-Some t c =
    let u = c.place-in-Some.result in
    let positive = c.in-Some.got.0.ok in
    let found = c.free_unknown.ensures in
    let number = ap (or_zero unknown_number) c.in-Some.is in
    let f = (rw number at found).hit (λ z. omega arith) in
    let b : unknown_number c.in-Some.got - 1 < length c.args.holders = omega (arith, f.0, c.requires.unknowns) in
    let g = giving c.args.holders (equation_number c.args.asker - 1) (unknown_number c.in-Some.got - 1) (Some c.args.asker) b (one-more c.args.asker) in
    λ m s. rw c.place-in-Some.ensures (takes s f.0 f.1 f.2 g, g.here)

pub next_held-wanted-requires : goal.next_held-wanted-requires
next_held-wanted-requires t c =
    let s = c.requires in
    (omega arith, all_held s (ap (or_zero unknown_number) c.in_default.is) c.free_unknown.ensures)

pub search-requires : goal.search-requires
search-requires t c =
    let p = (goal.at.search-requires t c).After-unwrap-holder in
    let s = c.requires in
    let f = fewer c.args.asked (search rules) c.loop-wanted.invariant.2 s.asker s.fresh (rw c.place.ensures at c.loop-wanted.invariant.1) in
    rw c.loop-wanted.invariant.0 (omega arith, asks s (wants t p).occurs (by t p) (fresh t p) (given-at t p))

pub returns-in-Ok : goal.returns-in-Ok
returns-in-Ok t c =
    let p = (goal.at.returns-in-Ok t c).After-unwrap-holder in
    λ m s. rw (← c.place-place.ensures)
    (moves s (by t p) (fresh t p) (asked-at t p) (given-at t p)
    ((rw c.loop-wanted.invariant.0 at c.in-Ok.ensures) m (asks s (wants t p).occurs (by t p) (fresh t p) (given-at t p))).0)

pub next_held-wanted-requires-in-Some-wanted : goal.next_held-wanted-requires-in-Some-wanted
next_held-wanted-requires-in-Some-wanted t c =
    let p = (goal.at.next_held-wanted-requires-in-Some-wanted t c).After-unwrap-holder in
    let s = c.requires in
    (omega arith, subst (AllHeld c.args.table.now.unknowns (occurs_at c.args.table.now.rows) (equation_number c.args.asker - 1)) (sym (back t p)) (all_held s (ap (or_zero unknown_number) c.in_default.is) c.free_unknown.ensures))

pub loop-wanted-smaller : goal.loop-wanted-smaller
loop-wanted-smaller t c =
    let p = (goal.at.loop-wanted-smaller t c).After-unwrap-holder in
    let r = (rw c.loop-wanted.invariant.0 at c.in-Err.ensures) limit (asks c.requires (wants t p).occurs (by t p) (fresh t p) (given-at t p)) in
    falses_fall c.loop-wanted.asked c.in-Err.more (c.loop-wanted.invariant.2 ∙ sym (search rules)) r.more (equation_number c.unwrap-holder.result - 1) (fresh t p) r.self

pub loop-wanted-preserved : goal.loop-wanted-preserved
loop-wanted-preserved t c =
    let p = (goal.at.loop-wanted-preserved t c).After-unwrap-holder in
    let r = (rw c.loop-wanted.invariant.0 at c.in-Err.ensures) limit (asks c.requires (wants t p).occurs (by t p) (fresh t p) (given-at t p)) in
    let next = rw (back t p, add-one c.place-place.result) at c.next_held-wanted-in-Some-wanted.ensures in
    let number = ap (or_zero unknown_number) c.in-Some-wanted.is in
    let positive = c.in-Some-wanted.got.0.ok in
    (back t p, turn_next (number ∙ (omega arith)) c.loop-wanted.invariant.1 (wants t p).occurs (by t p) (given-at t p) r next, search rules)

pub returns : goal.returns
returns t c =
    let n : length c.args.asked ≡ limit = search rules in
    let none = ap (or_zero unknown_number) c.in_default-wanted.is in
    let held = all_held c.requires (ap (or_zero unknown_number) c.in_default.is) c.free_unknown.ensures in
    λ m s. ends (rw n c.requires.asker) none held (rw c.place.ensures at c.loop-wanted.invariant.1)
