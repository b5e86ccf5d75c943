-- Written bits as the binary digits of a number, by division and remainder.
use Rattle.std.specs.Prelude.{ℕ, ◌+◌, ◌*◌, ◌/◌, ◌%◌, ◌^◌, ◌<◌, Bool, ◌&&◌, leb, eqb, Option}
use Rattle.numbers.specs.Search.{greatest}

-- digit q of x, 0 or 1
unfoldable pub digit : (x q : ℕ) → ℕ
digit x q = x / 2 ^ q % 2

-- and whether it is set.
unfoldable pub bit : (x q : ℕ) → Bool
bit x q = eqb (digit x q) 1

-- The digits of x from lo on and below hi.
unfoldable pub range_of : (x lo hi : ℕ) → ℕ
range_of x lo hi = x % 2 ^ hi / 2 ^ lo * 2 ^ lo

-- x with digit p set.
unfoldable pub set_at : (x p : ℕ) → ℕ
set_at x p = x / 2 ^ (p + 1) * 2 ^ (p + 1) + 2 ^ p + x % 2 ^ p

-- x with digit p cleared.
unfoldable pub unset_at : (x p : ℕ) → ℕ
unset_at x p = x / 2 ^ (p + 1) * 2 ^ (p + 1) + x % 2 ^ p

-- The highest set digit of x from lo on and below hi.
unfoldable pub newest_bit : (x lo hi : ℕ) → Option ℕ
newest_bit x lo hi = greatest hi (λ q. leb lo q && bit x q)

-- The ends of a range of digits of a 32-bit number.
pub record Ends (lo hi : ℕ) : Type 0 where
  pub lo_below : lo < 32
  pub hi_below : hi < 32
