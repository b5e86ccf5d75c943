-- A line that is no record gets 1 or 2. Assumes nothing.
use mathlib.Core.Path.{◌≡◌, subst}
use mathlib.Core.Bool.{Bool, true, false, cond}
use mathlib.Core.List.{List, [], ◌∷◌}
use Prim.Native.Nat.{ℕ, ◌≤◌}
use native.Mathlib.Omega.{arith}
use lib.Dec.{leb}
use lib.ListN.{length}
use Rattle.text.specs.Parts.{Text, fields_of}
use Rattle.text.specs.Lines.{limit}
use Rattle.std.specs.Prelude.{Option, Some, None}
use Rattle.records.specs.declared.Word.{Word}
use Rattle.records.specs.Records.{Asked, rows, word_in, numbers_in, asked, with_numbers, record_in, parsed}
use Rattle.records.specs.Records.Asked.{asks, turned_down}

abbrev Low : Asked → Type 0
Low (asks w ns) = Unit {0}
Low (turned_down n) = n ≤ 2

low : (line : Text) → Low (parsed line)
unfolding parsed record_in with_numbers asked
low line = go (leb (length line) limit) (fields_of line)
  where
    known : (k : Option Word) (ns : List ℕ) → Low (asked k ns)
    known (Some w) ns = tt
    known None ns = omega arith

    numbers : (word : Text) (o : Option (List ℕ)) → Low (with_numbers word o)
    numbers word None = omega arith
    numbers word (Some ns) = known (word_in rows word (length ns)) ns

    go : (b : Bool) (fields : List Text) → Low (cond b (record_in fields) (turned_down 1))
    go true [] = omega arith
    go true (word ∷ fields) = numbers word (numbers_in fields)
    go false fields = omega arith

pub turned-low : (line : Text) (n : ℕ) → parsed line ≡ turned_down n → n ≤ 2
turned-low line n e = subst Low e (low line)
