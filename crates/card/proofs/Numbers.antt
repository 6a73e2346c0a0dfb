-- Numbers there and back: what `number_of` reads is the digits that `dec` gives, and nothing else.
use mathlib.Core.Path.{◌≡◌, refl, ap, sym, ◌∙◌}
use mathlib.Core.Bool.{Bool, true, not}
use mathlib.Core.List.{List, [], ◌∷◌, ◌++◌}
use Prim.Native.Nat.{ℕ, zero, suc, ◌+◌, ◌-◌, ◌*◌, ◌/◌, ◌%◌, ◌≤◌, ◌<◌}
use native.Mathlib.Nat.{div-div-eq-div-mul, div-add-mod'}
use native.Mathlib.Omega.{arith}
use lib.Dec.{ltb, eqb}
use lib.ListN.{length, drop}
use borrow.Author.Tests.{eqb-true, eqb-false, lt-ltb, le-ltb, le-leb, ltb-true, ltb-false}
use Rattle.laws.proofs.Tests.{test, clash, and_left, and_right, and_both}
use Rattle.std.specs.Prelude.{None, Some}
use Rattle.card.specs.Text.{is_digit, number, digits_of, number_of, digit_of, dec}
use Rattle.std.specs.List.{list_all}
use Rattle.card.proofs.TextLaws.{digit_low, digit_high}

-- no digit stands in front
abbrev pub stops : List ℕ → Bool
stops [] = true
stops (b ∷ s) = not (is_digit b)

-- the value of digits behind a value
abbrev value_of : ℕ → List ℕ → ℕ
value_of v [] = v
value_of v (d ∷ ds) = value_of (v * 10 + (d - 48)) ds

-- the digits of a number: all are, and only 0 itself begins with a zero
record Spelling (b : ℕ) (ds : List ℕ) : Type 0 where
  first : is_digit b ≡ true
  digits : list_all is_digit ds ≡ true
  short : length ds ≤ 3
  lead : b ≡ 48 → length ds ≡ 0

nil_of : (ds : List ℕ) → length ds ≡ 0 → ds ≡ []
nil_of [] e = refl
nil_of (d ∷ ds) e = absurd (omega arith)

-- ---- reading digits

digits_stop : (more v took : ℕ) (rest : List ℕ) → stops rest ≡ true → digits_of more v took rest ≡ number v took
digits_stop zero v took rest h = refl
digits_stop (suc more) v took [] h = refl
digits_stop (suc more) v took (b ∷ rest) h = test (is_digit b) (λ t. clash {b = not (is_digit b)} h (rw t)) (λ f. rw f)

digits_read : (ds : List ℕ) (more v took : ℕ) (rest : List ℕ) → list_all is_digit ds ≡ true → length ds ≤ more → stops rest ≡ true
    → digits_of more v took (ds ++ rest) ≡ number (value_of v ds) (took + length ds)
digits_read [] more v took rest e l h = let z : took + 0 ≡ took = omega arith in rw z (digits_stop more v took rest h)
digits_read (d ∷ ds) zero v took rest e l h = absurd (omega arith)
digits_read (d ∷ ds) (suc more) v took rest e l h =
    let z : took + suc (length ds) ≡ took + 1 + length ds = omega arith in
    rw (and_left (is_digit d) (list_all is_digit ds) e, z) (digits_read ds more (v * 10 + (d - 48)) (took + 1) rest
    (and_right (is_digit d) (list_all is_digit ds) e) (omega arith) h)

-- a spelling in front of anything that is no digit is read whole
spelt_read : (b : ℕ) (ds rest : List ℕ) → Spelling b ds → stops rest ≡ true → number_of (b ∷ ds ++ rest) ≡ Some (number (value_of (b - 48) ds) (1 + length ds))
spelt_read b ds rest k h =
    test (eqb b 48)
    (λ t. let n = nil_of ds (k.lead (eqb-true b 48 t)) in let z : b - 48 ≡ 0 = omega (arith, eqb-true b 48 t) in rw (k.first, t, n, z))
    (λ t. rw (k.first, t) (ap Some (digits_read ds 3 (b - 48) 1 rest k.digits k.short h)))

-- what is read as a number is a spelling, and its value
record Read (s : List ℕ) (v t : ℕ) : Type 0 where
  b : ℕ
  ds : List ℕ
  spelling : Spelling b ds
  value : v ≡ value_of (b - 48) ds
  took : t ≡ 1 + length ds
  is : s ≡ b ∷ ds ++ drop t s

record More (more v took : ℕ) (s : List ℕ) (w t : ℕ) : Type 0 where
  ds : List ℕ
  digits : list_all is_digit ds ≡ true
  short : length ds ≤ more
  value : w ≡ value_of v ds
  count : t ≡ took + length ds
  is : s ≡ ds ++ drop (length ds) s

is_same : {v t w u : ℕ} → number v t ≡ number w u → (v ≡ w) × (t ≡ u)
is_same e = (ap (λ d. d.value) e, ap (λ d. d.took) e)

none_more : (more v took : ℕ) (s : List ℕ) (w t : ℕ) → number v took ≡ number w t → More more v took s w t
none_more more v took s w t e =
    let (p, q) = is_same e in
    record { ds = []; digits = refl; short = omega arith; value = sym p; count = omega arith; is = refl }

digits_back : (more v took : ℕ) (s : List ℕ) (w t : ℕ) → digits_of more v took s ≡ number w t → More more v took s w t
digits_back zero v took s w t e = none_more zero v took s w t e
digits_back (suc more) v took [] w t e = none_more (suc more) v took [] w t e
digits_back (suc more) v took (d ∷ s) w t e =
    test (is_digit d)
    (λ h.
    let k = digits_back more (v * 10 + (d - 48)) (took + 1) s w t (rw h at e) in
    let l = k.short in
    let c = k.count in
    record { ds = d ∷ k.ds; digits = and_both h k.digits; short = omega arith; value = k.value; count = omega arith; is = ap (λ x. d ∷ x) k.is })
    (λ h. none_more (suc more) v took (d ∷ s) w t (rw h at e))

number_back : (s : List ℕ) (v t : ℕ) → number_of s ≡ Some (number v t) → Read s v t
number_back [] v t e = cc
number_back (b ∷ s) v t e =
    test (is_digit b)
    (λ h. test (eqb b 48)
    (λ z.
    let f : Some (number 0 1) ≡ Some (number v t) = rw (h, z) at e in
    let (p, q) = is_same {v = 0} {t = 1} {w = v} {u = t} cc in
    let y : b ≡ 48 = eqb-true b 48 z in
    record {
      b = b;
      ds = [];
      spelling = record { first = h; digits = refl; short = omega arith; lead = λ _. refl };
      value = omega arith;
      took = sym
          q;
      is = rw (← q);
    })
    (λ z.
    let f : Some (digits_of 3 (b - 48) 1 s) ≡ Some (number v t) = rw (h, z) at e in
    let k = digits_back 3 (b - 48) 1 s v t cc in
    let y : t ≡ suc (length k.ds) = k.count ∙ omega arith in
    record {
      b = b;
      ds = k.ds;
      spelling = record { first = h; digits = k.digits; short = k.short; lead = λ w. absurd (eqb-false b 48 z w) };
      value = k.value;
      took = k.count;
      is = ap (λ x. b ∷ x) k.is ∙ ap (λ i. b ∷ k.ds ++ drop i (b ∷ s)) (sym y);
    }))
    (λ h. let f : None ≡ Some (number v t) = rw h at e in cc)

-- ---- the digits of a value

-- a spelling is the digits of its value
record Spells (b : ℕ) (ds : List ℕ) : Type 0 where
  is : dec (value_of (b - 48) ds) ≡ b ∷ ds
  small : value_of (b - 48) ds ≤ 9999

first_high : {b : ℕ} {ds : List ℕ} → Spelling b ds → 0 < length ds → 49 ≤ b
first_high {b} {ds} k n =
    let l = digit_low b k.first in
    test (eqb b 48) (λ t. let z = k.lead (eqb-true b 48 t) in absurd (omega arith)) (λ f. omega (arith, eqb-false b 48 f))

-- digits are 48 to 57
record Between (d : ℕ) : Type 0 where
  low : 48 ≤ d
  high : d ≤ 57

between : (d : ℕ) → is_digit d ≡ true → Between d
between d h = record { low = digit_low d h; high = digit_high d h }

two : {a b c d : ℕ} → a ≡ c → b ≡ d → a ∷ b ∷ [] ≡ c ∷ d ∷ []
two p q = cc

three : {a b c d e f : ℕ} → a ≡ d → b ≡ e → c ≡ f → a ∷ b ∷ c ∷ [] ≡ d ∷ e ∷ f ∷ []
three p q r = cc

four : {a b c d e f g h : ℕ} → a ≡ e → b ≡ f → c ≡ g → d ≡ h → a ∷ b ∷ c ∷ d ∷ [] ≡ e ∷ f ∷ g ∷ h ∷ []
four p q r s = cc

spells : (b : ℕ) (ds : List ℕ) → Spelling b ds → Spells b ds
unfolding dec
spells b [] k =
    let l = between b k.first in
    record { is = rw (lt-ltb (b - 48) 10 (omega arith)) (ap (λ x. x ∷ []) (omega arith)); small = omega arith }
spells b (c ∷ []) k =
    let l = between b k.first in
    let m = between c (and_left (is_digit c) true k.digits) in
    let h = first_high k (omega arith) in
    let v = (b - 48) * 10 + (c - 48) in
    record { is = rw (le-ltb v 10 (omega arith), lt-ltb v 100 (omega arith)) (two (omega arith) (omega arith)); small = omega arith }
spells b (c ∷ d ∷ []) k =
    let l = between b k.first in
    let m = between c (and_left (is_digit c) (list_all is_digit (d ∷ [])) k.digits) in
    let n = between d (and_left (is_digit d) true (and_right (is_digit c) (list_all is_digit (d ∷ [])) k.digits)) in
    let h = first_high k (omega arith) in
    let v = ((b - 48) * 10 + (c - 48)) * 10 + (d - 48) in
    record {
      is = rw (le-ltb v 10 (omega arith), le-ltb v 100 (omega arith), lt-ltb v 1000 (omega arith))
          (three (omega arith) (omega arith) (omega arith));
      small = omega arith;
    }
spells b (c ∷ d ∷ e ∷ []) k =
    let l = between b k.first in
    let m = between c (and_left (is_digit c) (list_all is_digit (d ∷ e ∷ [])) k.digits) in
    let r = and_right (is_digit c) (list_all is_digit (d ∷ e ∷ [])) k.digits in
    let n = between d (and_left (is_digit d) (list_all is_digit (e ∷ [])) r) in
    let o = between e (and_left (is_digit e) true (and_right (is_digit d) (list_all is_digit (e ∷ [])) r)) in
    let h = first_high k (omega arith) in
    let v = (((b - 48) * 10 + (c - 48)) * 10 + (d - 48)) * 10 + (e - 48) in
    record {
      is = rw (le-ltb v 10 (omega arith), le-ltb v 100 (omega arith), le-ltb v 1000 (omega arith))
          (four (omega arith) (omega arith) (omega arith) (omega arith));
      small = omega arith;
    }
spells b (c ∷ d ∷ e ∷ f ∷ ds) k = absurd (omega (arith, k.short))

-- ---- the digits of a number

-- the digits of a number up to 9999 are a spelling of it
record Digits (n : ℕ) : Type 0 where
  b : ℕ
  ds : List ℕ
  spelling : Spelling b ds
  is : dec n ≡ b ∷ ds
  value : value_of (b - 48) ds ≡ n

low_digit : (n : ℕ) → is_digit (digit_of n) ≡ true
low_digit n = and_both (le-leb 48 (digit_of n) (omega arith)) (le-leb (digit_of n) 57 (omega arith))

-- a number is ten times its tenth and its last digit
split : (n : ℕ) → n / 10 * 10 + n % 10 ≡ n
split n = div-add-mod' n 10

-- a tenth of a tenth, and a tenth of a hundredth
tenth : (n : ℕ) → n / 10 / 10 ≡ n / 100
tenth n = div-div-eq-div-mul n 10 10

hundredth : (n : ℕ) → n / 100 / 10 ≡ n / 1000
hundredth n = div-div-eq-div-mul n 100 10

bare : (d : ℕ) → 48 + d - 48 ≡ d
bare d = omega arith

below_ten : (n : ℕ) → n < 10 → n % 10 ≡ n
below_ten n h = omega arith

three_digits : (n : ℕ) → n < 1000 → (n / 100 % 10 * 10 + n / 10 % 10) * 10 + n % 10 ≡ n
three_digits n h =
    let t : n / 100 < 10 = omega arith in
    rw (below_ten (n / 100) t, ← (tenth n), split (n / 10)) (split n)

four_digits : (n : ℕ) → n < 10000 → ((n / 1000 % 10 * 10 + n / 100 % 10) * 10 + n / 10 % 10) * 10 + n % 10 ≡ n
four_digits n h =
    let t : n / 1000 < 10 = omega arith in
    rw (below_ten (n / 1000) t, ← (hundredth n), split (n / 100), ← (tenth n), split (n / 10)) (split n)

digits : (n : ℕ) → n ≤ 9999 → Digits n
unfolding dec
digits n h =
    test (ltb n 10)
    (λ a. let x = ltb-true n 10 a in
    record {
      b = digit_of n;
      ds = [];
      spelling = record { first = low_digit n; digits = refl; short = omega arith; lead = λ _. refl };
      is = rw a;
      value = omega arith;
    })
    (λ a. let x = ltb-false n 10 a in test (ltb n 100)
    (λ b. let y = ltb-true n 100 b in
    record {
      b = digit_of (n / 10);
      ds = digit_of n ∷ [];
      spelling = record { first = low_digit (n / 10); digits = and_both (low_digit n) refl; short = omega arith; lead = λ z. absurd (omega arith) };
      is = rw (a, b);
      value = omega arith;
    })
    (λ b. let y = ltb-false n 100 b in test (ltb n 1000)
    (λ c. let z = ltb-true n 1000 c in
    record {
      b = digit_of (n / 100);
      ds = digit_of (n / 10) ∷ digit_of n ∷ [];
      spelling = record {
        first = low_digit (n / 100);
        digits = and_both (low_digit (n / 10)) (and_both (low_digit n) refl);
        short = omega arith;
        lead = λ w. absurd (omega arith);
      };
      is = rw (a, b, c);
      value = rw (bare (n / 100 % 10), bare (n / 10 % 10), bare (n % 10)) (three_digits n z);
    })
    (λ c. let z = ltb-false n 1000 c in
    record {
      b = digit_of (n / 1000);
      ds = digit_of (n / 100) ∷ digit_of (n / 10) ∷ digit_of n ∷ [];
      spelling = record {
        first = low_digit (n / 1000);
        digits = and_both (low_digit (n / 100)) (and_both (low_digit (n / 10)) (and_both (low_digit n) refl));
        short = omega arith;
        lead = λ w. absurd (omega arith);
      };
      is = rw (a, b, c);
      value = rw (bare (n / 1000 % 10), bare (n / 100 % 10), bare (n / 10 % 10), bare (n % 10)) (four_digits n (omega arith));
    })))

-- ---- the two theorems

-- the digits of a number, with no digit behind them, are read as that number
pub number_dec : (n : ℕ) (rest : List ℕ) → n ≤ 9999 → stops rest ≡ true → number_of (dec n ++ rest) ≡ Some (number n (length (dec n)))
number_dec n rest h k =
    let d = digits n h in
    ap (λ l. number_of (l ++ rest)) d.is ∙ spelt_read d.b d.ds rest d.spelling k
    ∙ ap (λ v. Some (number v (1 + length d.ds))) d.value ∙ ap (λ t. Some (number n t)) (let z : 1 + length d.ds ≡ suc (length d.ds) = omega arith in z ∙ ap length
    (sym d.is))

-- what is read as a number is the digits of a number up to 9999
pub record Decimal (s : List ℕ) (n t : ℕ) : Type 0 where
  pub small : n ≤ 9999
  pub is : s ≡ dec n ++ drop t s
  pub took : t ≡ length (dec n)

pub number_is : (s : List ℕ) (n t : ℕ) → number_of s ≡ Some (number n t) → Decimal s n t
number_is s n t e =
    let r = number_back s n t e in
    let k = spells r.b r.ds r.spelling in
    let d : dec n ≡ r.b ∷ r.ds = ap dec r.value ∙ k.is in
    record {
      small = let v = r.value in let l = k.small in omega arith;
      is = r.is ∙ ap (λ l. l ++ drop t s) (sym d);
      took = r.took ∙ (let z : 1 + length r.ds ≡ suc (length r.ds) = omega arith in z) ∙ ap length (sym d);
    }

-- every byte of it is a digit
pub dec_digits : (n : ℕ) → n ≤ 9999 → list_all is_digit (dec n) ≡ true
dec_digits n h = let d = digits n h in rw d.is (and_both d.spelling.first d.spelling.digits)
