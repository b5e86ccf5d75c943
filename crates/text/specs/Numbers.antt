-- Numbers as text. Quotations are of document 01.
use Rattle.std.specs.Prelude.{ℕ, zero, suc, ◌+◌, ◌-◌, ◌*◌, ◌/◌, ◌%◌, Bool, true, cond, ◌&&◌, [], ◌∷◌, leb, ltb, length, Option, Some, None}
use Rattle.text.specs.Parts.{Text}

unfoldable pub is_digit : ℕ → Bool
is_digit b = leb 48 b && leb b 57

unfoldable pub all_digits : Text → Bool
all_digits [] = true
all_digits (b ∷ bs) = is_digit b && all_digits bs

-- The value of digits, with v for the digits before them.
unfoldable pub decimal_value : (v : ℕ) → Text → ℕ
decimal_value v [] = v
decimal_value v (b ∷ bs) = decimal_value (v * 10 + (b - 48)) bs

-- "Numbers have 1 to 10 decimal digits, leading zeros allowed, and are at most 4,294,967,295."
unfoldable pub is_number : Text → Bool
is_number field = (leb 1 (length field) && leb (length field) 10) && (all_digits field && leb (decimal_value 0 field) 4294967295)

unfoldable pub field_number : Text → Option ℕ
field_number field = cond (is_number field) (Some (decimal_value 0 field)) None

-- The decimal digits of a number without leading zeros, before some text. So many digits are enough for any 64-bit number.
unfoldable pub digits_before : (most n : ℕ) → Text → Text
digits_before zero n rest = rest
digits_before (suc most) n rest = cond (ltb n 10) ((48 + n) ∷ rest) (digits_before most (n / 10) ((48 + n % 10) ∷ rest))

unfoldable pub decimal : ℕ → Text
decimal n = digits_before 20 n []
