-- Records as the code has them.
use Rattle.std.specs.Prelude.{ℕ, ◌≤◌, ◌≡◌, cond, List, [], ◌∷◌, leb, length, take, Option, Some, None, IfSome, Result, Ok, Err}
use Rattle.text.specs.Parts.{Text, fields_of}
use Rattle.records.specs.declared.Record.{Record}
use Rattle.records.specs.declared.Refusal.{Refusal}
use Rattle.records.specs.declared.Refusal.TheVariants.{Long, NoRecord, Early}
use Rattle.records.specs.declared.Numbers.{Numbers}
use Rattle.records.specs.Records.{Asked}
use Rattle.records.specs.Records.Asked.{asks, turned_down}

-- The most numbers that a record takes.
abbrev pub most_numbers : ℕ
most_numbers = 3

-- Numbers that a record may have.
unfoldable pub few : Option (List ℕ) → Option (List ℕ)
few None = None
few (Some ns) = cond (leb (length ns) most_numbers) (Some ns) None

-- The fields that follow, from the tab on that ends a field.
unfoldable pub fields_behind : Text → List Text
fields_behind [] = []
fields_behind (tab ∷ text) = fields_of text

unfoldable pub shown_numbers : Option Numbers → Option (List ℕ)
shown_numbers None = None
shown_numbers (Some n) = Some (take n.count n.numbers)

pub record Gathers (ns : Option (List ℕ)) (found : Option Numbers) : Type 0 where
  pub counted : IfSome found (λ n. n.count ≤ most_numbers)
  pub same : shown_numbers found ≡ few ns

-- The numbers of a record.
abbrev pub numbers_of : Record → List ℕ
numbers_of r = take r.count r.numbers

-- The number of a refusal in an answer. (3: "No reset was accepted yet".)
abbrev pub refusal_number : Refusal → ℕ
refusal_number Long = 1
refusal_number NoRecord = 2
refusal_number Early = 3

unfoldable pub shown_parsed : Result Record Refusal → Asked
shown_parsed (Ok r) = asks r.word (numbers_of r)
shown_parsed (Err e) = turned_down (refusal_number e)
