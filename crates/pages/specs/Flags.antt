-- The collected lines' flags, one for each line behind the pages' owners. Request 2.3: "The base of the surviving history therefore holds, for each
-- line, whether it was ever written." 0 is never, any other value that it was: a write to the line was collected.
use Rattle.std.specs.Prelude.{ℕ, ◌+◌, ◌≤◌, ◌<◌, Bool, not, List, eqb, get_or, set}
use Rattle.lists.specs.Lists.{rewrite_from}

-- Whether a line was collected.
unfoldable pub collected_at : (pages : ℕ) → (owners : List ℕ) → (line : ℕ) → Bool
collected_at pages owners l = not (eqb (get_or owners (pages + l) 0) 0)

-- A line that is collected.
unfoldable pub flagged : (pages line : ℕ) → List ℕ → List ℕ
flagged pages l owners = set owners (pages + l) 1

-- No line was: RESET.
unfoldable pub unflagged : (pages lines : ℕ) → List ℕ → List ℕ
unflagged pages lines owners = rewrite_from pages lines (λ _. 0) owners

-- What the functions ask of the numbers and the lent length.
pub record AsksFlag (pages line long : ℕ) : Type 0 where
  pub pages_few : pages ≤ 4096
  pub line_few : line ≤ 4096
  pub lent : pages + line < long
