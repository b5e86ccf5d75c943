-- Lines that come in pieces. Quotations are of document 01.
use Rattle.std.specs.Prelude.{ℕ, ◌+◌, ◌≤◌, min, ◌≡◌, [], ◌∷◌, ◌++◌, length, take}
use Rattle.text.specs.Parts.{Text}
use Rattle.text.specs.declared.Reader.{Reader}

-- "The session line has more than 80 bytes before its line feed or the end of input."
abbrev pub limit : ℕ
limit = 80

-- As much of a line as is looked at: one byte past the limit tells that it is too long.
abbrev pub looked : Text → Text
looked line = take (limit + 1) line

-- A reader that holds a line, which may be longer than any buffer.
pub record Holds (r : Reader) (line : Text) : Type 0 where
  pub counted : r.count ≡ min (limit + 1) (length line)
  pub bytes : take r.count r.kept ≡ looked line

-- Some bytes more, whatever line was held.
abbrev pub Extends : Reader → Text → Reader → Type 0
Extends r more s = (line : Text) → Holds r line → Holds s (line ++ more)

-- The line with a line feed behind it.
pub record Ended (r s : Reader) : Type 0 where
  pub few : s.count ≤ limit + 2
  pub bytes : (line : Text) → Holds r line → take s.count s.kept ≡ looked line ++ (10 ∷ [])
