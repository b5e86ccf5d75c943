-- Numbers in decimal digits, as bytes.
use Rattle.std.specs.Prelude.{ℕ, zero, suc, ◌+◌, ◌-◌, ◌/◌, ◌%◌, cond, List, [], ◌∷◌, ◌++◌, ltb, length, replicate}

-- The decimal digits of a number without leading zeros, before some text: at most so many.
unfoldable pub digits_before : (most n : ℕ) → List ℕ → List ℕ
digits_before zero n rest = rest
digits_before (suc most) n rest = cond (ltb n 10) ((48 + n) ∷ rest) (digits_before most (n / 10) ((48 + n % 10) ∷ rest))

-- "padded on its left with spaces" to so many columns (request 2.4), which are enough for the number.
unfoldable pub padded : (columns n : ℕ) → List ℕ
padded columns n =
    let digits = digits_before columns n [] in
    replicate (columns - length digits) 32 ++ digits
