-- What the definitions of specs/Model say of numbers.
use mathlib.Core.Path.{◌≡◌, refl, ◌∙◌}
use mathlib.Core.Bool.{true}
use mathlib.Core.List.{List, [], ◌∷◌}
use Prim.Native.Nat.{ℕ, zero, suc, ◌+◌, ◌*◌, ◌≤◌, ◌<◌}
use native.Mathlib.Nat.{suc-mul, mul-le-mul_right}
use native.Mathlib.Omega.{arith}
use lib.Dec.{leb, eqb, ltb}
use Rattle.std.specs.List.{position, position_or_len}
use Rattle.std.specs.Option.{unwrap_or}
use Rattle.std.proofs.lemmas.List.Recursion.{is_position_or_len}
use lib.ListN.{length, get_or, replicate}
use borrow.Author.Tests.{lt-ltb, le-ltb, leb-true, leb-false}
use Rattle.laws.specs.Tab.{tab, pick}
use Rattle.laws.proofs.Tests.{test, tests, and_left, and_right}
use Rattle.laws.proofs.Tab.{get_or_tab, tab_ext, replicate_tab}
use Rattle.table.specs.Model.{limit, top_code, counted_in, in_limits, Numbered, well_sized, first_above, code_at, Bounded, square, lent_code, rows_of}

pub counted : (n : ℕ) → counted_in n ≡ true → Numbered n
counted n t =
    let a = and_left (leb 1 n) (leb n limit) t in
    let b = and_right (leb 1 n) (leb n limit) t in
    record { low = omega (arith, tests); high = omega (arith, tests) }

-- what was judged well sized
pub record Sized (E U : ℕ) (t : List ℕ) : Type 0 where
  pub equations : Numbered E
  pub unknowns : Numbered U
  pub bytes : length t ≡ E * U

pub limits : (E U : ℕ) → in_limits E U ≡ true → Numbered E × Numbered U
limits E U t = (counted E (and_left (counted_in E) (counted_in U) t), counted U (and_right (counted_in E) (counted_in U) t))

pub sized : (E U : ℕ) (t : List ℕ) → well_sized E U t ≡ true → Sized E U t
sized E U t h =
    let l = limits E U (and_left (in_limits E U) (eqb (length t) (E * U)) h) in
    let q = and_right (in_limits E U) (eqb (length t) (E * U)) h in
    record { equations = l.0; unknowns = l.1; bytes = omega (arith, tests) }

-- a row's bytes lie within the table
pub row_within : (E U e : ℕ) → e < E → e * U + U ≤ E * U
row_within E U e h = rw (← (suc-mul e U)) (mul-le-mul_right U h)

-- the first code above 4 stands within the table, or at its end
pub above_most : (t : List ℕ) → first_above t ≤ length t
above_most [] = omega arith
above_most (x ∷ t) = let r = above_most t in test (leb x top_code) (λ a. rw a (omega arith)) (λ a. rw a (omega arith))

-- the first code above 4 stands where the library finds it, or there is none and it stands at the end
above_position : (t : List ℕ) → first_above t ≡ position_or_len (λ code. ltb top_code code) t
above_position t = is_position_or_len first_above (λ code. ltb top_code code) refl (λ x xs. test (leb x top_code)
    (λ h. rw (h, le-ltb top_code x (leb-true x top_code h)) (omega arith))
    (λ h. rw (h, lt-ltb top_code x (leb-false x top_code h)) refl)) t

pub first_found : (t : List ℕ) → unwrap_or (position (λ code. ltb top_code code) t) (length t) ≡ first_above t
first_found t = test (ltb (first_above t) (length t))
    (λ h. rw (← above_position t, h) refl)
    (λ h. let m = above_most t in rw (← above_position t, h) (omega (arith, tests)))

-- the rows of the lent bytes as far as E, and zeros beyond
pub lent_rows : (E U : ℕ) (t : List ℕ) → tab limit (λ e. pick (ltb e E) (tab limit (λ u. pick (ltb u U) (get_or t (e * U + u) 0) 0)) (replicate limit 0)) ≡ rows_of E U t
lent_rows E U t = tab_ext limit (λ e. pick (ltb e E) (row e) (replicate limit 0)) (λ e. tab limit (lent_code E U t e)) (λ e b. test (ltb e E)
    (λ h. rw h (tab_ext limit (λ u. pick (ltb u U) (get_or t (e * U + u) 0) 0) (lent_code E U t e) (λ u k. rw h)))
    (λ h. rw h (replicate_tab {A = ℕ} limit 0 ∙ tab_ext limit (λ u. 0) (lent_code E U t e) (λ u k. rw h))))
  where
    row : ℕ → List ℕ
    row e = tab limit (λ u. pick (ltb u U) (get_or t (e * U + u) 0) 0)

-- what stands in a square
pub square_at : (f : ℕ → ℕ → ℕ) (e u : ℕ) → e < limit → u < limit → code_at (square f) e u ≡ f e u
square_at f e u h k = rw (get_or_tab limit (λ x. tab limit (f x)) e [] h) (get_or_tab limit (f e) u 0 k)

-- a table whose bytes were judged, well sized and with no code above 4, has no code above 4 in its rows either
none_above : (b : List ℕ) → first_above b ≡ length b → (i : ℕ) → i < length b → get_or b i 0 ≤ top_code
none_above [] e i h = absurd (omega arith)
none_above (x ∷ b) e zero h = test (leb x top_code) (λ t. omega (arith, tests)) (λ t. let z = rw t at e in absurd (omega arith))
none_above (x ∷ b) e (suc i) h = test (leb x top_code)
    (λ t. let z = rw t at e in none_above b (omega arith) i (omega arith))
    (λ t. let z = rw t at e in absurd (omega arith))

pub rows_bounded : (E U : ℕ) (b : List ℕ) → well_sized E U b ≡ true → first_above b ≡ length b → Bounded E U (rows_of E U b)
rows_bounded E U b w f = let s = sized E U b w in record {
  equations = s.equations.high;
  unknowns = s.unknowns.high;
  codes = λ e u h k.
      let r = row_within E U e h in
      let i : e * U + u < length b = rw s.bytes (omega arith) in
      rw (square_at (lent_code E U b) e u (omega arith) (omega arith), lt-ltb e E h, lt-ltb u U k) (none_above b f (e * U + u) i);
}
