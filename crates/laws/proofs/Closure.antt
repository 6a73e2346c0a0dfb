-- What grows from a start by steps, n rounds of it. A round in which nobody joins is closed, any other has more members than the one before, and there
-- are n places only: so after n rounds no step leads out.
use mathlib.Core.Path.{◌≡◌, sym, ◌∙◌}
use mathlib.Core.Bool.{Bool, true, false, not, ◌&&◌, ◌||◌}
use mathlib.Core.List.{List}
use mathlib.Core.Logic.{◌⊎◌, inl, inr}
use Prim.Native.Nat.{ℕ, zero, suc, ◌<◌, ◌≤◌}
use native.Mathlib.Nat.{le_antisymm}
use native.Mathlib.Omega.{arith}
use Rattle.laws.specs.Count.{count, any}
use Rattle.laws.specs.Marks.{marked}
use Rattle.laws.specs.Tab.{tab}
use Rattle.laws.proofs.Tests.{either, given, clash, not_true, not_false, and_left, and_right, and_both, or_cases, or_left, or_right}
use Rattle.laws.proofs.Search.{seek, any_here, any_where}
use Rattle.laws.proofs.Tab.{length_tab, get_or_tab}
use Rattle.laws.proofs.Counts.{count_within, count_all, count_less}
use Rattle.laws.proofs.Marks.{marked_within}

-- one round: a member, or whoever a member steps to
abbrev joins : ℕ → (ℕ → ℕ → Bool) → List Bool → ℕ → Bool
joins n step l e = marked l e || any n (λ a. marked l a && step a e)

abbrev grow : ℕ → (ℕ → ℕ → Bool) → List Bool → List Bool
grow n step l = tab n (joins n step l)

abbrev rounds : ℕ → (ℕ → ℕ → Bool) → (ℕ → Bool) → ℕ → List Bool
rounds n step start zero = tab n start
rounds n step start (suc k) = grow n step (rounds n step start k)

abbrev pub closure : ℕ → (ℕ → ℕ → Bool) → (ℕ → Bool) → List Bool
closure n step start = rounds n step start n

-- no step leads out
abbrev Closed : ℕ → (ℕ → ℕ → Bool) → List Bool → Type 0
Closed n step l = (a e : ℕ) → a < n → e < n → marked l a ≡ true → step a e ≡ true → marked l e ≡ true

module _ (n : ℕ) (step : ℕ → ℕ → Bool) (start : ℕ → Bool) where
  rounds_within : (k e : ℕ) → marked (rounds n step start k) e ≡ true → e < n
  rounds_within zero e t = rw (length_tab n start) at (marked_within (tab n start) e t)
  rounds_within (suc k) e t =
      let l = rounds n step start k in
      rw (length_tab n (joins n step l)) at (marked_within (grow n step l) e t)

  -- who is a member a round later: who was one, and who is stepped to
  later : (k e : ℕ) → e < n → marked (rounds n step start (suc k)) e ≡ joins n step (rounds n step start k) e
  later k e h = get_or_tab n (joins n step (rounds n step start k)) e false h

  stays : (k e : ℕ) → e < n → marked (rounds n step start k) e ≡ true → marked (rounds n step start (suc k)) e ≡ true
  stays k e h t = later k e h ∙ or_left (any n (λ a. marked (rounds n step start k) a && step a e)) t

  joined : (k e : ℕ) → e < n → marked (rounds n step start (suc k)) e ≡ true
      → (marked (rounds n step start k) e ≡ true) ⊎ ((a : ℕ) × (a < n) × (marked (rounds n step start k) a ≡ true) × (step a e ≡ true))
  joined k e h t =
      let l = rounds n step start k in
      either (or_cases (marked l e) (any n (λ a. marked l a && step a e)) (sym (later k e h) ∙ t)) inl
      (λ w. given (any_where {n = n} (λ a. marked l a && step a e) w) (λ (a, b, v).
      inr (a, b, and_left (marked l a) (step a e) v, and_right (marked l a) (step a e) v)))

  rounds_start : (k e : ℕ) → e < n → start e ≡ true → marked (rounds n step start k) e ≡ true
  rounds_start zero e h s = get_or_tab n start e false h ∙ s
  rounds_start (suc k) e h s = stays k e h (rounds_start k e h s)

  -- what holds of the start, and of whoever is stepped to from one that has it, holds of all members
  module _ (P : ℕ → Type 0) (base : (e : ℕ) → e < n → start e ≡ true → P e) (next : (a e : ℕ) → a < n → e < n → P a → step a e ≡ true → P e) where
    rounds_only : (k e : ℕ) → marked (rounds n step start k) e ≡ true → P e
    rounds_only zero e t = let h = rounds_within zero e t in base e h (sym (get_or_tab n start e false h) ∙ t)
    rounds_only (suc k) e t =
        let h = rounds_within (suc k) e t in
        either (joined k e h t) (λ m. rounds_only k e m) (λ (a, b, m, s). next a e b h (rounds_only k a m) s)

    pub closure_only : (e : ℕ) → marked (closure n step start) e ≡ true → P e
    closure_only = rounds_only n

  pub closure_within : (e : ℕ) → marked (closure n step start) e ≡ true → e < n
  closure_within = rounds_within n

  pub closure_start : (e : ℕ) → e < n → start e ≡ true → marked (closure n step start) e ≡ true
  closure_start = rounds_start n

  -- nobody joined in the last round: it is closed
  idle : (k : ℕ) → ((e : ℕ) → e < n → marked (rounds n step start (suc k)) e ≡ true → marked (rounds n step start k) e ≡ true)
      → Closed n step (rounds n step start (suc k))
  idle k none a e h b m s =
      let l = rounds n step start k in
      later k e b ∙ or_right (marked l e) (any_here (λ a. marked l a && step a e) a h (and_both (none a h m) s))

  -- after k rounds it is closed, or it has k members
  fills : (k : ℕ) → Closed n step (rounds n step start k) ⊎ (k ≤ count n (marked (rounds n step start k)))
  fills zero = inr (omega arith)
  fills (suc k) =
      let l = rounds n step start k in
      either (seek n (λ e. marked (grow n step l) e && not (marked l e)))
      (λ (e, h, t, _).
      let now = and_left (marked (grow n step l) e) (not (marked l e)) t in
      let old = not_true (λ m. clash (and_right (marked (grow n step l) e) (not (marked l e)) t) (rw m)) in
      either (fills k) (λ c. either (joined k e h now) (λ m. clash m old) (λ (a, b, m, s). clash (c a e b h m s) old))
      (λ few. let more = count_less n (marked l) (marked (grow n step l)) (stays k) e h now old in inr (omega arith)))
      (λ none. inl (idle k (λ e h m. not_false (λ f. clash (and_both m (rw f)) (none e h)))))

  pub closure_closed : Closed n step (closure n step start)
  closure_closed = either (fills n) (λ c. c) (λ all a e h b m s.
      let most = count_within n (marked (closure n step start)) in
      count_all n (marked (closure n step start)) (le_antisymm most all) e b)
