-- Lines of 16 bytes, and what a width and the order of bytes mean. The width is a parameter throughout.
use Rattle.std.specs.Prelude.{ℕ, zero, suc, ◌+◌, ◌*◌, ◌/◌, ◌%◌, ◌^◌, ◌<◌, ◌≡◌, List, [], ◌∷◌, ◌++◌, length, get_or, take, drop, replicate}

-- "L lines of 16 bytes": a line is one value, the list of its bytes.
abbrev pub Line : Type 0
Line = List ℕ

-- Lines by their number.
abbrev pub Memory : Type 0
Memory = ℕ → Line

-- 16 numbers, each a byte.
pub record IsLine (x : Line) : Type 0 where
  pub long : length x ≡ 16
  pub small : (i : ℕ) → get_or x i 0 < 256

unfoldable pub zeros : Line
zeros = replicate 16 0

-- "width is 1, 2 or 4 bytes, most significant byte first": the bytes of a value
unfoldable pub bytes_of : (width value : ℕ) → List ℕ
bytes_of zero value = []
bytes_of (suc width) value = value / 256 ^ width % 256 ∷ bytes_of width value

-- and the value of bytes, with v for the bytes before them.
unfoldable pub value_of : (v : ℕ) → List ℕ → ℕ
value_of v [] = v
value_of v (b ∷ bs) = value_of (v * 256 + b) bs

-- A line after a write at an offset in it.
unfoldable pub edit : (width offset value : ℕ) → Line → Line
edit width offset value x = take offset x ++ (bytes_of width value ++ drop (offset + width) x)

-- The value that a read at an offset of a line gives.
unfoldable pub value_at : (width offset : ℕ) → Line → ℕ
value_at width offset x = value_of 0 (take width (drop offset x))

-- An address is a line's number and an offset in the line.
abbrev pub line_of : ℕ → ℕ
line_of address = address / 16

abbrev pub offset_of : ℕ → ℕ
offset_of address = address % 16

-- "A page holds 8 neighbouring lines", "counted from line 0": the block of a line.
abbrev pub block_of : ℕ → ℕ
block_of line = line / 8
