-- The two orders agree: a pair equals or precedes another exactly if its byte in the table does not stand behind the other's.
use mathlib.Core.Path.{◌≡◌, refl, ap, ◌∙◌}
use mathlib.Core.Bool.{false}
use mathlib.Core.Logic.{◌⊎◌, inl, inr}
use Prim.Native.Nat.{ℕ, ◌+◌, ◌-◌, ◌*◌, ◌/◌, ◌%◌, ◌≤◌, ◌<◌}
use native.Mathlib.Nat.{mul-le-mul_right, div-add-mod', mod-lt, div-lt_iff_lt-mul}
use native.Mathlib.Omega.{arith}
use lib.Arith.{digits_div, digits_mod}
use lib.Dec.{leb, ltb, eqb}
use borrow.Author.Tests.{le-ltb, ne_eqb, le-leb, lt-leb, ltb-true, ltb-false, eqb-true, eqb-false, leb-true, leb-false}
use Rattle.laws.proofs.Tests.{test, either}
use Rattle.card.specs.Card.{not_after, cell}

-- a whole row lies between the bytes of two equations
row : (x y U : ℕ) → x < y → x * U + U ≤ y * U
row x y U h = let z = mul-le-mul_right U h in omega arith

-- document 01's order, by e and then u, is the order of the table's bytes
pub cells_order : (U e u e' u' : ℕ) → 1 ≤ e → 1 ≤ u → u ≤ U → 1 ≤ e' → 1 ≤ u' → u' ≤ U → not_after e u e' u' ≡ leb (cell U e u) (cell U e' u')
cells_order U e u e' u' a b c a' b' c' =
    test (ltb e e')
    (λ t. let h = row (e - 1) (e' - 1) U (omega (arith, ltb-true e e' t)) in
    rw (t, le-leb (cell U e u) (cell U e' u') (omega arith)))
    (λ f. test (eqb e e')
    (λ t. let z : e ≡ e' = eqb-true e e' t in test (leb u u')
    (λ v. let l = leb-true u u' v in let g : cell U e u ≤ cell U e' u' = rw z (omega arith) in rw (f, t, v, le-leb (cell U e u) (cell U e' u') g))
    (λ v. let l = leb-false u u' v in let g : cell U e' u' < cell U e u = rw z (omega arith) in rw (f, t, v, lt-leb (cell U e u) (cell U e' u') g)))
    (λ t.
    let h = row (e' - 1) (e - 1) U (omega (arith, ltb-false e e' f, eqb-false e e' t)) in
    rw (f, t, lt-leb (cell U e u) (cell U e' u') (omega arith))))

-- a byte's row and column, and back
pub cell_of : (U c : ℕ) → cell U (c / U + 1) (c % U + 1) ≡ c
cell_of U c = let a : c / U + 1 - 1 ≡ c / U = omega arith in let b : c % U + 1 - 1 ≡ c % U = omega arith in rw (a, b) (div-add-mod' c U)

module _ (U e u : ℕ) (a : 1 ≤ e) (b : 1 ≤ u) (c : u ≤ U) where
  pub row_of : cell U e u / U + 1 ≡ e
  row_of = let z : (e - 1) + 1 ≡ e = omega arith in ap (λ n. n + 1) (digits_div (e - 1) {m = U} {r = u - 1} (omega arith)) ∙ z

  pub column_of : cell U e u % U + 1 ≡ u
  column_of = let z : (u - 1) + 1 ≡ u = omega arith in ap (λ n. n + 1) (digits_mod (e - 1) {m = U} {r = u - 1} (omega arith)) ∙ z

-- the numbers of a byte within the table
pub record PairAt (E U c : ℕ) : Type 0 where
  pub e_high : c / U + 1 ≤ E
  pub u_high : c % U + 1 ≤ U

pub pair_at : (E U c : ℕ) → 1 ≤ U → c < E * U → PairAt E U c
pair_at E U c h l = let q = (div-lt_iff_lt-mul {k = U} {x = c} {y = E} h).1 l in let r = mod-lt c {m = U} h in record
    { e_high = omega arith; u_high = omega arith }

-- a pair, 0, 0 where there is none, all of whose bytes stand before c
pub Behind : ℕ → ℕ → ℕ → ℕ → Type 0
Behind U c e' u' = (e' ≡ 0) ⊎ ((1 ≤ e') × (1 ≤ u') × (u' ≤ U) × (cell U e' u' < c))

pub behind_none : (U c : ℕ) → Behind U c 0 0
unfolding Behind
behind_none U c = inl refl

pub behind_some : (U c e u : ℕ) → 1 ≤ e → 1 ≤ u → u ≤ U → cell U e u < c → Behind U c e u
unfolding Behind
behind_some U c e u p q r s = inr (p, q, r, s)

pub behind_more : (U c e u : ℕ) → Behind U c e u → Behind U (c + 1) e u
unfolding Behind
behind_more U c e u k = either k (λ z. inl z) (λ w. inr (w.0, w.1, w.2, (let l = w.3 in omega arith)))

-- a pair whose byte stands from c on comes after such a pair
pub behind_after : (U c e' u' e u : ℕ) → Behind U c e' u' → 1 ≤ e → 1 ≤ u → u ≤ U → c ≤ cell U e u → not_after e u e' u' ≡ false
unfolding Behind
behind_after U c e' u' e u k a b d l =
    either k
    (λ z. rw (z, le-ltb e 0 (omega arith), ne_eqb e 0 (λ y. omega arith)))
    (λ w. cells_order U e u e' u' a b d w.0 w.1 w.2 ∙ lt-leb (cell U e u) (cell U e' u') (let m = w.3 in omega arith))
