-- Laws of lists given by a function of the place, and of a loop that fills one place after another.
use mathlib.Core.Path.{◌≡◌, refl, ap, sym, ◌∙◌}
use mathlib.Core.Bool.{Bool, true, false}
use mathlib.Core.List.{List, ◌∷◌, map}
use Prim.Native.Nat.{ℕ, zero, suc, ◌≤◌, ◌<◌, ◌+◌}
use native.Mathlib.Omega.{arith}
use native.Mathlib.Nat.{le_of_suc-le-suc, not-suc-le-zero}
use lib.Dec.{ltb, eqb}
use lib.ListN.{length, get_or, set, replicate, length-set, length-map, get_or-map, get_or-eq_default}
use lib.Seq.{ext_get_or, get_or-set_same, get_or-set_other}
use borrow.Author.Tests.{lt-ltb, le-ltb, eqb-true, eqb-false}
use Rattle.laws.specs.Tab.{tab, pick, upto}
use Rattle.laws.proofs.Tests.{test, tests}

module _ {A : Type 0} where
  pub length_tab : (n : ℕ) (f : ℕ → A) → length (tab n f) ≡ n
  unfolding tab
  length_tab zero f = refl
  length_tab (suc n) f = ap suc (length_tab n (λ k. f (suc k)))

  pub get_or_tab : (n : ℕ) (f : ℕ → A) (i : ℕ) (d : A) → i < n → get_or (tab n f) i d ≡ f i
  unfolding tab
  get_or_tab zero f i d h = absurd (not-suc-le-zero h)
  get_or_tab (suc n) f zero d h = refl
  get_or_tab (suc n) f (suc i) d h = get_or_tab n (λ k. f (suc k)) i d (le_of_suc-le-suc h)

  -- past its end a list has nothing but the default
  pub get_or_past : (n : ℕ) (f : ℕ → A) (i : ℕ) (d : A) → n ≤ i → get_or (tab n f) i d ≡ d
  get_or_past n f i d h = get_or-eq_default (tab n f) d (rw (length_tab n f) h)

  -- a list is the tab of what stands at its places
  pub is_tab : (l : List A) (d : A) (n : ℕ) (f : ℕ → A) → length l ≡ n → ((i : ℕ) → i < n → get_or l i d ≡ f i) → l ≡ tab n f
  is_tab l d n f e h = ext_get_or d l (tab n f) (e ∙ sym (length_tab n f)) (λ i b. h i (rw e at b) ∙ sym (get_or_tab n f i d (rw e at b)))

  pub tab_ext : (n : ℕ) (f g : ℕ → A) → ((i : ℕ) → i < n → f i ≡ g i) → tab n f ≡ tab n g
  unfolding tab
  tab_ext zero f g h = refl
  tab_ext (suc n) f g h = let t = tab_ext n (λ k. f (suc k)) (λ k. g (suc k)) (λ i b. h (suc i) (omega arith)) in let e = h 0 (omega arith) in cc

  pub replicate_tab : (n : ℕ) (a : A) → replicate n a ≡ tab n (λ _. a)
  unfolding tab
  replicate_tab zero a = refl
  replicate_tab (suc n) a = ap (λ l. a ∷ l) (replicate_tab n a)

  -- copies of the default, wherever they are read
  pub copies_at : (n : ℕ) (a : A) (i : ℕ) → get_or (replicate n a) i a ≡ a
  copies_at zero a i = refl
  copies_at (suc n) a zero = refl
  copies_at (suc n) a (suc i) = copies_at n a i

  pub upto_below : (i : ℕ) (f g : ℕ → A) (k : ℕ) → k < i → upto i f g k ≡ f k
  upto_below i f g k h = rw (lt-ltb k i h)

  pub upto_from : (i : ℕ) (f g : ℕ → A) (k : ℕ) → i ≤ k → upto i f g k ≡ g k
  upto_from i f g k h = rw (le-ltb k i h)

  -- a loop's start, step and end
  pub fill_start : (n : ℕ) (f g : ℕ → A) → tab n g ≡ tab n (upto 0 f g)
  fill_start n f g = tab_ext n g (upto 0 f g) (λ i b. sym (upto_from 0 f g i (omega arith)))

  pub fill_step : (n i : ℕ) (f g : ℕ → A) → i < n → set (tab n (upto i f g)) i (f i) ≡ tab n (upto (i + 1) f g)
  fill_step n i f g b = is_tab (set (tab n (upto i f g)) i (f i)) (f 0) n (upto (i + 1) f g) (simp (length-set, length_tab)) at_each
    where
      done : (k : ℕ) → k < n → (k ≡ i → ⊥) → upto i f g k ≡ upto (i + 1) f g k
      done k h ne = test (ltb k i)
          (λ t. upto_below i f g k (omega (arith, tests)) ∙ sym (upto_below (i + 1) f g k (omega (arith, tests))))
          (λ t. upto_from i f g k (omega (arith, tests)) ∙ sym (upto_from (i + 1) f g k (omega (arith, tests))))

      at_each : (k : ℕ) → k < n → get_or (set (tab n (upto i f g)) i (f i)) k (f 0) ≡ upto (i + 1) f g k
      at_each k h = test (eqb k i)
          (λ t. let e : k ≡ i = eqb-true k i t in
          rw e (get_or-set_same (tab n (upto i f g)) i (f i) (f 0) (rw (length_tab n (upto i f g)) b) ∙ sym (upto_below (i + 1) f g i (omega arith))))
          (λ t. get_or-set_other (tab n (upto i f g)) i k (f i) (f 0) (eqb-false k i t) ∙ get_or_tab n (upto i f g) k (f 0) h ∙ done k h (eqb-false k i t))

-- a list whose places are all given
pub whole_tab : {A : Type 0} (n : ℕ) (f : ℕ → A) (a : A) → tab n (λ i. pick (ltb i n) (f i) a) ≡ tab n f
whole_tab n f a = tab_ext n (λ i. pick (ltb i n) (f i) a) f (λ i b. rw (lt-ltb i n b))

-- a list's image, given by what stands at its places
pub map_tab : {A B : Type 0} (f : A → B) (l : List A) (d : A) (n : ℕ) → length l ≡ n → tab n (λ i. f (get_or l i d)) ≡ map f l
map_tab f l d n e = sym (is_tab (map f l) (f d) n (λ i. f (get_or l i d)) (length-map l f ∙ e) (λ i b. get_or-map f l i d))

pub pick_self : (b : Bool) → pick b true false ≡ b
pick_self true = refl
pick_self false = refl
