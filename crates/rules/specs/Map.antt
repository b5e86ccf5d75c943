-- Request 2.4: "Lay the written bits on a page whose rows are exactly 70 bytes." Quotations are of it.
use Rattle.std.specs.Prelude.{ℕ, zero, suc, Bool, cond, ◌&&◌, List, [], ◌∷◌, ◌++◌, ltb}
use Rattle.rules.specs.Seen.{any}
use Rattle.rules.specs.Decimal.{padded}

-- The values of a function at the numbers below n.
unfoldable pub tabulate : (n : ℕ) → (ℕ → ℕ) → List ℕ
tabulate zero f = []
tabulate (suc n) f = tabulate n f ++ (f n ∷ [])

-- "the 64 newest live frames", "64 signs".
abbrev pub columns : ℕ
columns = 64

-- "The first row is `live`, a space, the count of live frames padded on its left with spaces to 64 columns, and a line feed."
unfoldable pub live_row : (live : ℕ) → List ℕ
live_row live = (108 ∷ 105 ∷ 118 ∷ 101 ∷ 32 ∷ []) ++ (padded columns live ++ (10 ∷ []))

-- So many frames are live, and the written bits are given by marks back and line.
module _ (live : ℕ) (written : (back line : ℕ) → Bool) where
  -- "A sign is `#` for written, `.` for not, a space where no frame is live."
  unfoldable pub sign : (line back : ℕ) → ℕ
  sign l back = cond (ltb back live) (cond (written back l) 35 46) 32

  -- "its number padded on its left to 4 columns, a space, 64 signs from newest to oldest, a line feed".
  unfoldable pub line_row : ℕ → List ℕ
  line_row l = padded 4 l ++ (32 ∷ (tabulate columns (sign l) ++ (10 ∷ [])))

  -- "Each line with a bit set in the 64 newest live frames then has a row",
  unfoldable pub has_row : ℕ → Bool
  has_row l = any columns (λ back. ltb back live && written back l)

  -- "in rising order": the rows of the lines below n.
  unfoldable pub line_rows : (n : ℕ) → List ℕ
  line_rows zero = []
  line_rows (suc n) = line_rows n ++ cond (has_row n) (line_row n) []

  -- The map of a store of so many lines.
  unfoldable pub map_of : (lines : ℕ) → List ℕ
  map_of lines = live_row live ++ line_rows lines
