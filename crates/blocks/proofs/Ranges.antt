-- What a chain over the places below a bound finds and counts is what the definitions find and count.
use mathlib.Core.Path.{◌≡◌, refl, sym, ◌∙◌, ap}
use mathlib.Core.Bool.{Bool, cond}
use Prim.Native.Nat.{ℕ, zero, suc, ◌<◌}
use native.Mathlib.Omega.{arith}
use native.Mathlib.Numerals.{add-one}
use lib.ListN.{get_or}
use Rattle.std.specs.List.{list_any, count_by, range_with_len}
use Rattle.std.proofs.lemmas.List.{map-id}
use Rattle.std.proofs.lemmas.List.Recursion.{or_is}
use Rattle.std.proofs.lemmas.List.FromFn.{length-range_with_len, get_or-range_with_len, sum_by-map-range_with_len_more}
use Rattle.laws.specs.Count.{count, any}
use Rattle.laws.proofs.Tests.{test, given}
use Rattle.laws.proofs.Search.{any_where, any_none}

pub any_range : (n : ℕ) (p : ℕ → Bool) → list_any p (range_with_len 0 n) ≡ any n p
any_range n p = sym (or_is (list_any p) p refl (λ x xs. refl) (range_with_len 0 n) 0 (any n p)
    (λ t. given (any_where {n = n} p t) (λ (i, h, q). (i, rw (length-range_with_len 0 n) h, ap p (at i h) ∙ q)))
    (λ f i h. let b = rw (length-range_with_len 0 n) at h in ap p (at i b) ∙ any_none p f i b))
  where
    at : (i : ℕ) → i < n → get_or (range_with_len 0 n) i 0 ≡ i
    at i h = let e = get_or-range_with_len 0 n i 0 h in omega arith

pub count_range : (n : ℕ) (p : ℕ → Bool) → count_by p (range_with_len 0 n) ≡ count n p
count_range zero p = refl
count_range (suc n) p =
    let r = count_range n p in
    let s = simp (map-id) at (rw (add-one n) at (sum_by-map-range_with_len_more (λ x. cond (p x) 1 0) (λ x. x) 0 n n (omega arith))) in
    test (p n) (λ t. let z = rw t at s in rw t (omega arith)) (λ t. let z = rw t at s in rw t (omega arith))
