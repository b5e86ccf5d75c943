-- The records of a session. Quotations are of document 01.
use Rattle.std.specs.Prelude.{ℕ, Bool, true, false, cond, ◌&&◌, List, [], ◌∷◌, leb, eqb, length, Option, Some, None}
use Rattle.text.specs.Parts.{Text, fields_of}
use Rattle.text.specs.Numbers.{field_number}
use Rattle.text.specs.Lines.{limit}
use Rattle.records.specs.declared.Word.{Word}
use Rattle.records.specs.declared.Word.TheVariants.{Reset, Read, Write, Mark, Back, Advance, Counts}

-- What a line says: a record, which is a word and its numbers, or why the line is turned down.
pub data Asked : Type 0 where
  asks : Word → List ℕ → Asked
  turned_down : ℕ → Asked

unfoldable pub same_text : Text → Text → Bool
same_text [] [] = true
same_text [] (y ∷ ys) = false
same_text (x ∷ xs) [] = false
same_text (x ∷ xs) (y ∷ ys) = eqb x y && same_text xs ys

-- A record's row: its word as it is spelt, and how many numbers it takes.
pub record Row : Type 0 where
  pub spelt : Text
  pub word : Word
  pub takes : ℕ → Bool

abbrev row : Text → Word → (ℕ → Bool) → Row
row spelt word takes = record { spelt = spelt; word = word; takes = takes }

-- "Records: `reset` L F P; `read` width address; `write` width address value; `mark`; `back` k; `advance` k; `counts`": those that sessions are
-- full of, and the others.
unfoldable pub seldom : List Row
seldom =
    -- advance, counts, reset
    row (97 ∷ 100 ∷ 118 ∷ 97 ∷ 110 ∷ 99 ∷ 101 ∷ []) Advance (λ n. eqb n 1)
    ∷ row (99 ∷ 111 ∷ 117 ∷ 110 ∷ 116 ∷ 115 ∷ []) Counts (λ n. eqb n 0)
    ∷ row (114 ∷ 101 ∷ 115 ∷ 101 ∷ 116 ∷ []) Reset (λ n. eqb n 3)
    ∷ []

unfoldable pub rows : List Row
rows =
    -- read, write, mark, back
    row (114 ∷ 101 ∷ 97 ∷ 100 ∷ []) Read (λ n. eqb n 2)
    ∷ row (119 ∷ 114 ∷ 105 ∷ 116 ∷ 101 ∷ []) Write (λ n. eqb n 3)
    ∷ row (109 ∷ 97 ∷ 114 ∷ 107 ∷ []) Mark (λ n. eqb n 0)
    ∷ row (98 ∷ 97 ∷ 99 ∷ 107 ∷ []) Back (λ n. eqb n 1)
    ∷ seldom

-- The word of the row that is spelt so, if it takes so many numbers.
unfoldable pub taken : (takes : Bool) → Word → Option Word
taken takes w = cond takes (Some w) None

unfoldable pub word_in : List Row → (field : Text) → (count : ℕ) → Option Word
word_in [] field count = None
word_in (r ∷ rs) field count = cond (same_text field r.spelt) (taken (r.takes count) r.word) (word_in rs field count)

-- The numbers that fields say, if each of them says one.
unfoldable pub followed : Option ℕ → Option (List ℕ) → Option (List ℕ)
followed None later = None
followed (Some n) None = None
followed (Some n) (Some ns) = Some (n ∷ ns)

unfoldable pub numbers_in : List Text → Option (List ℕ)
numbers_in [] = Some []
numbers_in (field ∷ fields) = followed (field_number field) (numbers_in fields)

-- 2: "The session line is not one of the records".
unfoldable pub asked : Option Word → List ℕ → Asked
asked (Some w) ns = asks w ns
asked None ns = turned_down 2

unfoldable pub with_numbers : (word : Text) → Option (List ℕ) → Asked
with_numbers word None = turned_down 2
with_numbers word (Some ns) = asked (word_in rows word (length ns)) ns

-- A word and its numbers. (A line has at least one field.)
unfoldable pub record_in : List Text → Asked
record_in [] = turned_down 2
record_in (word ∷ fields) = with_numbers word (numbers_in fields)

-- 1: "The session line has more than 80 bytes before its line feed or the end of input."
unfoldable pub parsed : (line : Text) → Asked
parsed line = cond (leb (length line) limit) (record_in (fields_of line)) (turned_down 1)
