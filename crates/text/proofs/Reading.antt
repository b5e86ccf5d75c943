-- Reading a number digit by digit. Assumes nothing.
use mathlib.Core.Path.{◌≡◌, refl, sym, ◌∙◌, ap, ap₂}
use mathlib.Core.Logic.{◌≢◌, ◌⊎◌, inl, inr}
use mathlib.Core.Bool.{Bool, true, false, cond, ◌&&◌, and-false}
use mathlib.Core.List.{◌∷◌}
use Rattle.std.proofs.Common.{Some, None, Result, Ok, Err}
use Rattle.std.specs.Result.{OkIff, result_ok}
use Prim.Native.Nat.{ℕ, suc, ◌+◌, ◌-◌, ◌*◌, ◌^◌, ◌≤◌, ◌<◌}
use native.Mathlib.Nat.{pow-suc, pow-le-pow_right}
use native.Mathlib.Omega.{arith}
use borrow.Author.Tests.{le-leb, lt-leb}
use lib.Dec.{leb}
use lib.ListN.{length, get_or, drop, drop_of_length-le}
use lib.Seq.{drop-cons}
use Rattle.text.specs.Parts.{Text}
use Rattle.text.specs.Numbers.{is_digit, all_digits, decimal_value, is_number, field_number}

-- A byte that is a digit.
module _ (b : ℕ) where
  pub digit_low : b < 48 → false ≡ is_digit b
  unfolding is_digit
  digit_low h = sym (ap (λ (t : Bool). t && leb b 57) (lt-leb 48 b h))

  pub digit-high : 57 < b → false ≡ is_digit b
  unfolding is_digit
  digit-high h = sym (ap (λ (t : Bool). leb 48 b && t) (lt-leb b 57 h) ∙ and-false (leb 48 b))

  pub digit-is : 48 ≤ b → b ≤ 57 → true ≡ is_digit b
  unfolding is_digit
  digit-is h k = sym (ap₂ (λ (s t : Bool). s && t) (le-leb 48 b h) (le-leb b 57 k))

  pub digit-other : (b < 48 ⊎ 57 < b) → false ≡ is_digit b
  digit-other (inl h) = digit_low h
  digit-other (inr h) = digit-high h

-- The value of the first i digits, continued from there, is the value of them all.
pub record Reading (field : Text) (i value : ℕ) : Type 0 where
  pub few : i ≤ length field
  pub same : decimal_value 0 field ≡ decimal_value value (drop i field)
  pub digits : all_digits field ≡ all_digits (drop i field)
  pub small : value < 10 ^ i

pub reading-start : (field : Text) → Reading field 0 0
reading-start field = record { few = omega arith; same = refl; digits = refl; small = omega arith }

not-number : (field : Text) → is_number field ≡ false → None ≡ field_number field
unfolding field_number
not-number field e = sym (ap (λ (t : Bool). cond t (Some (decimal_value 0 field)) None) e)

module _ (field : Text) where
  abbrev rest : Bool
  rest = all_digits field && leb (decimal_value 0 field) 4294967295

  pub number-empty : length field ≡ 0 → None ≡ field_number field
  unfolding is_number
  number-empty e = not-number field (ap (λ (t : Bool). (t && leb (length field) 10) && rest) (lt-leb 1 (length field) (omega arith)))

  pub number-long : 10 < length field → None ≡ field_number field
  unfolding is_number
  number-long h =
      not-number field (ap (λ (t : Bool). (leb 1 (length field) && t) && rest) (lt-leb (length field) 10 h) ∙ ap (λ (t : Bool). t && rest) (and-false (leb 1 (length field))))

  abbrev counted : Bool
  counted = leb 1 (length field) && leb (length field) 10

  module _ (i value : ℕ) (r : Reading field i value) where
    here : i < length field → drop i field ≡ get_or field i 0 ∷ drop (suc i) field
    here h = drop-cons field i 0 h

    -- a byte that is no digit
    pub number-other : i < length field → false ≡ is_digit (get_or field i 0) → None ≡ field_number field
    unfolding is_number all_digits
    number-other h e =
        let none : all_digits field ≡ false =
        r.digits ∙ (ap all_digits (here h) ∙ ap (λ (s : Bool). s && all_digits (drop (suc i) field)) (sym e))
        in
        not-number field (ap (λ (s : Bool). counted && (s && leb (decimal_value 0 field) 4294967295)) none ∙ and-false counted)

    -- one digit more
    pub reading-next : i < length field → 48 ≤ get_or field i 0 → get_or field i 0 ≤ 57 → Reading field (i + 1) (value * 10 + (get_or field i 0 - 48))
    unfolding decimal_value all_digits
    reading-next h low high =
        let more : i + 1 ≡ suc i = omega arith in
        record {
          few = omega arith;
          same = r.same ∙ (ap (decimal_value value) (here h) ∙ ap (λ (k : ℕ). decimal_value (value * 10 + (get_or field i 0 - 48)) (drop k field)) (sym more));
          digits =
              r.digits
              ∙ (ap all_digits (here h)
              ∙ ap₂ (λ (s : Bool) (k : ℕ). s && all_digits (drop k field)) (sym (digit-is (get_or field i 0) low high)) (sym more));
          small = omega (arith, r.small, ap (λ (k : ℕ). 10 ^ k) more ∙ pow-suc 10 i);
        }

    pub reading-room : i < length field → length field ≤ 10 → value * 10 + 9 < 18446744073709551616
    reading-room h k = omega (arith, r.small, pow-le-pow_right {n = 10} (omega arith) (bound h k))
      where
        bound : i < length field → length field ≤ 10 → i ≤ 9
        bound h k = omega arith

    -- the end of the field
    all_digits_lem : length field ≤ i → all_digits field ≡ true
    unfolding all_digits
    all_digits_lem h = r.digits ∙ ap all_digits (drop_of_length-le field {i = i} h)

    whole : length field ≤ i → decimal_value 0 field ≡ value
    unfolding decimal_value
    whole h = r.same ∙ ap (decimal_value value) (drop_of_length-le field {i = i} h)

    number-large : length field ≤ i → 4294967295 < value → None ≡ field_number field
    unfolding is_number
    number-large h b =
        not-number field
        (ap (λ (s : Bool). counted && (all_digits field && s)) (ap (λ (x : ℕ). leb x 4294967295) (whole h) ∙ lt-leb value 4294967295 b)
        ∙ (ap (λ (s : Bool). counted && s) (and-false (all_digits field)) ∙ and-false counted))

    number_is : length field ≢ 0 → length field ≤ 10 → length field ≤ i → value ≤ 4294967295 → Some value ≡ field_number field
    unfolding is_number field_number
    number_is some few h b =
        sym
        (ap₂ (λ (s t : Bool). cond ((s && t) && rest) (Some (decimal_value 0 field)) None) (le-leb 1 (length field) (omega arith)) (le-leb (length field) 10 few)
        ∙ (ap₂ (λ (s : Bool) (x : ℕ). cond (s && leb x 4294967295) (Some x) None) (all_digits_lem h) (whole h)
        ∙ ap (λ (s : Bool). cond s (Some value) None) (le-leb value 4294967295 b)))

    -- what is read of a value that is converted to 32 bits
    pub number-read : length field ≢ 0 → length field ≤ 10 → length field ≤ i → {E : Type 0} (r : Result ℕ E) → OkIff r (value < 2 ^ 32) value → result_ok r ≡ field_number field
    number-read some few h (Ok x) o = ap Some o.1 ∙ number_is some few h (omega (arith, o.0))
    number-read some few h (Err e) o = number-large h (omega (arith, o))
