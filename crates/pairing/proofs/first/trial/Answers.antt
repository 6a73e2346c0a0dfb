-- `first::trial`, by the laws of proofs/Trying: the unknown is absent, or held by an equation up to this one, or its holder is asked to move on.
use mathlib.Core.Path.{◌≡◌, refl, sym, ap, ◌∙◌}
use mathlib.Core.List.{List}
use Prim.Native.Nat.{ℕ, suc, ◌-◌, ◌<◌, ◌≤◌}
use native.Mathlib.Omega.{arith}
use lib.ListN.{get_or, length}
use borrow.Author.Rules.{rules}
use borrow.Author.Tests.{eqb-true}
use Rattle.std.proofs.lemmas.List.{get_or_default}
use Rattle.std.proofs.lemmas.Map.Keys.{le_from_is_le}
use Rattle.std.specs.declared.option.Option.{Option}
use Rattle.std.specs.declared.option.Option.TheVariants.{None, Some}
use Rattle.laws.proofs.Tests.{given}
use Rattle.table.specs.Model.{occurs_at}
use Rattle.table.specs.Number.{equation_number, unknown_number, or_zero}
use Rattle.table.specs.declared.number.Equation.{Equation}
use Rattle.table.proofs.Same.{has_equation, has_unknown}
use Rattle.pairing.specs.Holders.{holder}
use Rattle.pairing.proofs.Sizes.{full_turned}
use Rattle.pairing.proofs.Searching.{widen}
use Rattle.pairing.proofs.Trying.{marks, owns, Asked, swapped_asks, swapped_found, swapped_nothing, tried_held, tried_is}
use Rattle.pairing.proofs.first.trial.Goals as goal
use Rattle.pairing.proofs.first.trial.Goals.{After-up_to}

pub unwrap-holder-requires : goal.unwrap-holder-requires
unwrap-holder-requires c =
    let h = c.args.holders.now in
    let b : c.place.result < length h = search rules in
    given ((full_turned refl c.requires.2.full).every (unknown_number c.args.u - 1) (search rules)) (λ (i, x).
    let y = rw (← c.place.ensures) at (eqb-true (holder h (unknown_number c.args.u - 1)) (suc i) x) in
    has_equation _ (rw (get_or_default h c.place.result c.index-holders-place.result None b) (omega arith)))

-- the holder that was read is the pairing's
number : (h : List (Option Equation)) (u p : ℕ) (d : Option Equation) (x : Equation) → p ≡ u → p < length h → get_or h p d ≡ Some x → holder h u ≡ equation_number x
number h u p d x e b r = rw (← e) (ap (or_zero equation_number) (get_or_default h p None d b ∙ r))

pub returns-then-le : goal.returns-then-le
returns-then-le c =
    let positive = c.args.e.0.ok in
    let n = number c.args.holders.now _ _ _ _ c.place.ensures (search rules) c.unwrap-holder.ensures in
    let below : equation_number c.unwrap-holder.result ≤ equation_number c.args.e = le_from_is_le _ _ (sym c.le.ensures ∙ c.if-le.true) in
    let t = tried_held {e = equation_number c.args.e - 1} {u = unknown_number c.args.u - 1} {x = equation_number c.args.e} c.requires.2.full (search rules) (search rules) (omega arith) (rw n below) in
    rw (c.then_some.ensures) (tried_is c.eq.result (rw (c.eq.ensures) (rw n at t)))

pub unwrap-own-requires : goal.unwrap-own-requires
unwrap-own-requires c = let o = (owns c.requires.2.full (search rules) (rw (← c.requires.2.square) at c.held_by.ensures)).0 in has_unknown _ (omega arith)

-- the holder of the unknown stands after the equation
asked : (c : After-up_to) → Asked c.args.table.now.equations (occurs_at c.args.table.now.rows) c.args.holders.now (equation_number c.args.e - 1) (unknown_number c.args.u - 1) c.place-2.result (Some c.args.e)
asked c =
    let positive = c.args.e.0.ok in
    let n = number c.args.holders.now _ _ _ _ c.place.ensures (search rules) c.unwrap-holder.ensures in
    let own = (owns c.requires.2.full (search rules) (rw (← c.requires.2.square) at c.held_by.ensures)).1.1 in
    let later : equation_number c.args.e < equation_number c.unwrap-holder.result = search rules in
    record {
      full = c.requires.2.full;
      limits = c.args.table.now.few.0;
      equation = search rules;
      unknown = search rules;
      all = search rules;
      number = omega arith;
      occurs = sym c.occurs.ensures ∙ c.if-not-occurs.false;
      own = rw c.place-2.ensures (rw (ap (or_zero unknown_number) c.unwrap-own.ensures) at own);
      later = rw n (omega arith);
    }

marks-up : (c : After-up_to) → c.up_to.result ≡ marks (suc (equation_number c.args.e - 1))
marks-up c =
    let positive = c.args.e.0.ok in
    let number : equation_number c.args.e ≡ suc (equation_number c.args.e - 1) = omega arith in
    c.up_to.ensures ∙ ap marks number

pub search-requires : goal.search-requires
search-requires c =
    let p = (goal.at.search-requires c).After-up_to in
    let n = number c.args.holders.now _ _ _ _ c.place.ensures (search rules) c.unwrap-holder.ensures in
    rw (marks-up p, c.place-3.ensures, ← c.requires.2.square) (rw n at (widen (swapped_asks (asked p))))

pub returns-in-Ok : goal.returns-in-Ok
returns-in-Ok c =
    let p = (goal.at.returns-in-Ok c).After-up_to in
    let n = number c.args.holders.now _ _ _ _ c.place.ensures (search rules) c.unwrap-holder.ensures in
    let s = (rw (marks-up p, c.place-3.ensures, ← c.requires.2.square) at c.in-Ok.ensures) c.args.table.now.equations (rw n at (swapped_asks (asked p))) in
    swapped_found (asked p) (rw n s.0)

pub returns-in-Err : goal.returns-in-Err
returns-in-Err c =
    let p = (goal.at.returns-in-Err c).After-up_to in
    let n = number c.args.holders.now _ _ _ _ c.place.ensures (search rules) c.unwrap-holder.ensures in
    let s = (rw (marks-up p, c.place-3.ensures, ← c.requires.2.square) at c.in-Err.ensures) c.args.table.now.equations (rw n at (swapped_asks (asked p))) in
    swapped_nothing (asked p) (rw (← n) at s)
