-- Laws of keys, numbers and lines, place by place: what a loop over a text needs.
use mathlib.Core.Path.{◌≡◌, refl, ap, sym, ◌∙◌}
use mathlib.Core.Bool.{true, false}
use mathlib.Core.List.{List, [], ◌∷◌}
use Prim.Native.Nat.{ℕ, zero, suc, ◌+◌, ◌-◌, ◌*◌, ◌^◌, ◌≤◌, ◌<◌}
use native.Mathlib.Omega.{arith}
use native.Mathlib.Numerals.{add-one}
use lib.Dec.{leb, eqb}
use lib.ListN.{length, get_or, drop, drop_of_length-le}
use lib.Seq.{drop-cons}
use borrow.Author.Tests.{leb-true}
use Rattle.std.specs.Prelude.{Some}
use Rattle.laws.specs.Tab.{pick}
use Rattle.laws.proofs.Tests.{test, and_left, and_right}
use Rattle.card.specs.Text.{begins, is_digit, number, digits_of, number_of, Lines, none, cut, line, grown}
use Rattle.card.specs.declared.text.Number.{Number}
use Rattle.card.specs.Steps.{end_of}

-- a key longer than the text does not stand in front of it
pub begins_short : (key text : List ℕ) → length text < length key → begins key text ≡ false
begins_short [] text h = let z : ◌≡◌ {A = ℕ} 0 1 = omega arith in absurd (omega arith)
begins_short (k ∷ key) [] h = refl
begins_short (k ∷ key) (b ∷ text) h = let e = begins_short key text (omega arith) in test (eqb k b) (λ t. cc) (λ f. cc)

-- what a digit is
pub digit_low : (b : ℕ) → is_digit b ≡ true → 48 ≤ b
digit_low b h = leb-true 48 b (and_left (leb 48 b) (leb b 57) h)

pub digit_high : (b : ℕ) → is_digit b ≡ true → b ≤ 57
digit_high b h = leb-true b 57 (and_right (leb 48 b) (leb b 57) h)

-- what the loop over digits keeps: the number is what is read so far, with the digits to come
pub record Taken (text : List ℕ) (d : Number) (at : ℕ) : Type 0 where
  pub some : 1 ≤ at
  pub four : at ≤ 4
  pub within : at ≤ length text
  pub small : d.value < 10 ^ at
  pub took : d.took ≡ at
  pub same : number_of text ≡ Some (digits_of (4 - at) d.value d.took (drop at text))

-- one digit after another
digits_at : (s : List ℕ) (value took i : ℕ) → i < 4 → i < length s
    → digits_of (4 - i) value took (drop i s)
    ≡ pick (is_digit (get_or s i 0)) (digits_of (4 - (i + 1)) (value * 10 + (get_or s i 0 - 48)) (took + 1) (drop (i + 1) s)) (number value took)
digits_at s value took i h k =
    let e : 4 - i ≡ suc (4 - (i + 1)) = omega arith in
    let d : drop i s ≡ get_or s i 0 ∷ drop (i + 1) s = rw add-one (drop-cons s i 0 k) in
    rw (e, d)

-- no digit where the text ends
digits_end : (more value took : ℕ) → digits_of more value took [] ≡ number value took
digits_end zero value took = refl
digits_end (suc more) value took = refl

module _ {s : List ℕ} {d : Number} {at : ℕ} (k : Taken s d at) where
  pub taken_end : length s ≤ at → Some d ≡ number_of s
  taken_end h = sym (k.same ∙ ap Some (rw (drop_of_length-le s h) (digits_end (4 - at) d.value d.took)))

  pub taken_stop : at < 4 → at < length s → is_digit (get_or s at 0) ≡ false → Some d ≡ number_of s
  taken_stop h l n = sym (k.same ∙ ap Some (digits_at s d.value d.took at h l ∙ rw n))

  pub taken_step : at < 4 → at < length s → is_digit (get_or s at 0) ≡ true
      → Taken s (record { value = d.value * 10 + (get_or s at 0 - 48); took = d.took + 1 }) (at + 1)
  taken_step h l n =
      record {
        some = omega arith;
        four = omega arith;
        within = omega arith;
        small = let p : 10 ^ (at + 1) ≡ 10 * 10 ^ at = rw add-one (omega arith) in omega (arith, k.small, digit_high (get_or s at 0) n);
        took = omega (arith, k.took);
        same = k.same ∙ ap Some (digits_at s d.value d.took at h l ∙ rw n);
      }

-- a line's end, one byte after another
pub end_grown : (b at : ℕ) (x : Lines) → end_of at (grown b x) ≡ end_of (at + 1) x
end_grown b at none = refl
end_grown b at (cut l) = refl
end_grown b at (line l rest) = let e : at + suc (length l) ≡ at + 1 + length l = omega arith in ap Some e
