-- The first full pairing is one: two of them agree at each equation once they agree before it, each being the lower there.
-- And a full pairing as a relation and as a function are the same thing.
use mathlib.Core.Path.{◌≡◌, refl, sym, ◌∙◌}
use mathlib.Core.Bool.{Bool, true, ◌&&◌}
use mathlib.Core.List.{List}
use Prim.Native.Nat.{ℕ, zero, suc, ◌<◌}
use native.Mathlib.Omega.{arith}
use native.Mathlib.Nat.{le_antisymm}
use lib.Dec.{eqb, ltb}
use lib.ListN.{get_or, length}
use lib.Seq.{ext_get_or}
use borrow.Author.Tests.{ltb-true, ltb-false, lt-ltb, eqb-true, eq-eqb}
use Rattle.laws.specs.Count.{any}
use Rattle.laws.specs.Tab.{pick}
use Rattle.laws.proofs.Tests.{test, either, given, clash, true≢false, and_left, and_right, and_both, or_cases}
use Rattle.std.specs.declared.option.Option.{Option}
use Rattle.std.specs.declared.option.Option.TheVariants.{None}
use Rattle.table.specs.declared.number.Unknown.{Unknown}
use Rattle.table.proofs.Same.{one_unknown}
use Rattle.pairing.specs.Pairing.{Rel, Pairing, Full}
use Rattle.pairing.specs.First.{Partners, First}
use Rattle.pairing.specs.Handed.{partner_of, FirstIs}
use Rattle.pairing.proofs.Sizes.{has_pair}

module _ {m n : ℕ} {edge : Rel} {p q : ℕ → ℕ} (a : First m n edge p) (b : First m n edge q) where
  agree : (d e : ℕ) → e < d → e < m → p e ≡ q e
  agree zero e c h = absurd (omega arith)
  agree (suc d) e c h = le_antisymm
      (a.low q b.ok e h (λ i k. sym (agree d i (omega arith) (omega arith))))
      (b.low p a.ok e h (λ i k. agree d i (omega arith) (omega arith)))

  pub first_one : (e : ℕ) → e < m → p e ≡ q e
  first_one e h = agree (suc e) e (omega arith) h

-- so the lists of partners are one
pub first_is_one : {n : ℕ} {edge : Rel} {l l' : List (Option Unknown)} → FirstIs n edge l → FirstIs n edge l' → length l ≡ length l' → l ≡ l'
first_is_one {n} {l = l} {l'} a b e = ext_get_or None l l' e (λ i _. one_unknown (get_or l i None) (get_or l' i None) (same i))
  where
    same : (i : ℕ) → partner_of l i ≡ partner_of l' i
    same i = test (ltb i n)
        (λ t. let h = ltb-true i n t in
        let c = a.numbered i h in let d = b.numbered i h in let s = first_one a.first b.first i h in omega arith)
        (λ t. let h = ltb-false i n t in a.beyond i h ∙ sym (b.beyond i h))

-- a choice of unknowns as a relation
abbrev pub pairs_of : ℕ → (ℕ → ℕ) → Rel
pairs_of m p e u = ltb e m && eqb u (p e)

pub partners_full : {m n : ℕ} {edge : Rel} {p : ℕ → ℕ} → Partners m n edge p → Full m n edge (pairs_of m p)
partners_full {m} {n} {edge} {p} k = record {
  ok = record {
    row = row;
    col = λ e u t. rw (is e u t) (k.col e (row e u t));
    fits = λ e u t. rw (is e u t) (k.fits e (row e u t));
    one_u = λ e u v s t. is e u s ∙ sym (is e v t);
    one_e = λ e f u s t. k.own e f (row e u s) (row f u t) (sym (is e u s) ∙ is f u t);
  };
  every = λ e h. (p e, and_both (lt-ltb e m h) (eq-eqb (p e) (p e) refl));
}
  where
    row : (e u : ℕ) → pairs_of m p e u ≡ true → e < m
    row e u t = ltb-true e m (and_left (ltb e m) (eqb u (p e)) t)

    is : (e u : ℕ) → pairs_of m p e u ≡ true → u ≡ p e
    is e u t = eqb-true u (p e) (and_right (ltb e m) (eqb u (p e)) t)

-- a choice of the pairs of a pairing
pub partners_of : {m n : ℕ} {edge M : Rel} {p : ℕ → ℕ} → Pairing m n edge M → ((e : ℕ) → e < m → M e (p e) ≡ true) → Partners m n edge p
partners_of {M = M} {p} k has = record {
  col = λ e h. k.col e (p e) (has e h);
  fits = λ e h. k.fits e (p e) (has e h);
  own = λ e f h i s. k.one_e e f (p f) (rw s at (has e h)) (has f i);
}

-- the lowest i below n with p i, or 0
abbrev pub lowest : ℕ → (ℕ → Bool) → ℕ
lowest zero p = 0
lowest (suc n) p = pick (any n p) (lowest n p) n

lowest_has : (n : ℕ) (p : ℕ → Bool) → any n p ≡ true → p (lowest n p) ≡ true
lowest_has zero p t = absurd (true≢false (sym t))
lowest_has (suc n) p t = test (any n p) (λ a. rw a (lowest_has n p a)) (λ f. rw f (either (or_cases (p n) (any n p) t) (λ h. h) (λ a. clash a f)))

-- so a full pairing is a choice: for each equation the lowest unknown that it has
pub full_chosen : {m n : ℕ} {edge M : Rel} → Full m n edge M → (e : ℕ) → e < m → M e (lowest n (M e)) ≡ true
full_chosen {n = n} {M = M} f e h = given (f.every e h) (λ (u, t). lowest_has n (M e) (has_pair f.ok e u t))

pub full_partners : {m n : ℕ} {edge M : Rel} → Full m n edge M → Partners m n edge (λ e. lowest n (M e))
full_partners f = partners_of f.ok (full_chosen f)
