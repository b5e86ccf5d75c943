-- Lines and values in lists of bytes, by their first byte.
use Rattle.std.specs.Prelude.{ℕ, ◌+◌, ◌≤◌, ◌≡◌, true, List, take, drop}
use Rattle.std.proofs.Math.Seq.{paste}
use Rattle.rules.specs.Line.{Line}
use Rattle.rules.specs.Refusal.{is_width}

-- "L lines of 16 bytes": the line that starts at a byte.
unfoldable pub line_at : (bytes : List ℕ) (at : ℕ) → Line
line_at bytes at = take 16 (drop at bytes)

-- "its most recent version is copied there": the bytes with a line copied there.
unfoldable pub paste_line : (bytes : List ℕ) (at : ℕ) → Line → List ℕ
paste_line bytes at x = paste bytes at x 16

-- What is asked of the bytes of a value in a list: "width is 1, 2 or 4 bytes", and the list has them,
pub record AsksValue (width at long : ℕ) : Type 0 where
  pub width_is : is_width width ≡ true
  pub inside : at + width ≤ long

-- and of those of a value in a line.
abbrev pub AsksBytes : (width offset : ℕ) → Type 0
AsksBytes width offset = AsksValue width offset 16
