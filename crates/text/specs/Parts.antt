-- Text as a list of bytes, and its parts between separators: lines by the line feed, fields by the tab. Quotations are of document 01.
use Rattle.std.specs.Prelude.{ℕ, suc, cond, List, [], ◌∷◌, ◌++◌, eqb}

abbrev pub Text : Type 0
Text = List ℕ

-- The parts of a text, where some bytes of the first part stand before it. There is always a last part, which may be empty.
unfoldable pub split : (separator : ℕ) → (begun : Text) → Text → List Text
split sep begun [] = begun ∷ []
split sep begun (b ∷ bs) = cond (eqb b sep) (begun ∷ split sep [] bs) (split sep (begun ++ (b ∷ [])) bs)

-- "It reads standard input, one record a line": the lines of an input. "The last line may lack its line feed"; what stands behind the last
-- line feed is an empty part, and "An empty line gets no answer".
abbrev pub lines_of : Text → List Text
lines_of input = split 10 [] input

-- "fields parted by one tab".
abbrev pub fields_of : Text → List Text
fields_of line = split 9 [] line

-- How many bytes stand before the first separator, or before the end.
unfoldable pub up_to : (separator : ℕ) → Text → ℕ
up_to sep [] = 0
up_to sep (b ∷ bs) = cond (eqb b sep) 0 (suc (up_to sep bs))
