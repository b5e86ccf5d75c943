-- Answers as text. Quotations are of document 01.
use Rattle.std.specs.Prelude.{ℕ, cond, [], ◌∷◌, ◌++◌, eqb}
use Rattle.text.specs.Parts.{Text}
use Rattle.text.specs.Numbers.{decimal}
use Rattle.rules.specs.Call.{Origin, Answer, number_in}
use Rattle.rules.specs.Call.Place.{in_frame, in_archive}
use Rattle.rules.specs.Call.Origin.{from_cache, from, empty}
use Rattle.rules.specs.Call.Answer.{outcome, reading, lending, counting, verdict, filling}

-- "origin (`c` cache, `a` archive, or marks back)", and (request 2.3) `e` where no surviving write has touched the line.
unfoldable pub origin_text : Origin → Text
origin_text from_cache = 99 ∷ []
origin_text (from (in_frame back)) = decimal back
origin_text (from in_archive) = 97 ∷ []
origin_text empty = 101 ∷ []

-- "After `ok`, a read gives value and origin ..; counts gives live frames and pages"; "fields are parted by one tab". (No record asks for
-- a LINE, a CHECK or a block of writes.)
unfoldable pub values_text : Answer → Text
values_text (outcome n) = []
values_text (reading n value origin) = (9 ∷ decimal value) ++ (9 ∷ origin_text origin)
values_text (lending line) = []
values_text (counting n live pages) = (9 ∷ decimal live) ++ (9 ∷ decimal pages)
values_text (verdict n says) = []
values_text (filling n left) = []

-- "Output: `ok`, or `no` and the number above; .. every line ends with a line feed."
unfoldable pub ok_line : Answer → Text
ok_line a = (111 ∷ 107 ∷ []) ++ (values_text a ++ (10 ∷ []))

unfoldable pub no_line : ℕ → Text
no_line n = (110 ∷ 111 ∷ []) ++ ((9 ∷ decimal n) ++ (10 ∷ []))

unfoldable pub answer_line : Answer → Text
answer_line a = cond (eqb (number_in a) 0) (ok_line a) (no_line (number_in a))

-- The tally, "printed last as `end`, oks, noes".
unfoldable pub end_line : (oks noes : ℕ) → Text
end_line oks noes = (101 ∷ 110 ∷ 100 ∷ []) ++ ((9 ∷ decimal oks) ++ ((9 ∷ decimal noes) ++ (10 ∷ [])))

-- No answer to a line is longer,
abbrev pub longest : ℕ
longest = 64

-- and no line of the tally.
abbrev pub longest_end : ℕ
longest_end = 64
