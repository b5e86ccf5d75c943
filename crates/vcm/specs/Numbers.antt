-- Answers as numbers: include/vcm.h has them in the same words.
use Rattle.std.specs.Prelude.{ℕ, ◌≡◌, Bool, cond, List}
use Rattle.rules.specs.Call.{Origin}
use Rattle.rules.specs.Call.Answer.{outcome, lending, verdict}
use Rattle.rules.specs.Call.Look.{LINE, LINE_REFUSAL}
use Rattle.rules.specs.Call.Call.{CHECK}
use Rattle.storage.specs.declared.Registers.{Registers}
use Rattle.storage.specs.Clauses.{Reads, Looks}
use Rattle.store.specs.Shown.{Lent, Kept, Promises}
use Rattle.border.specs.Answers.{origin_number, marks_back, copied}

-- READ: "the value and its origin".
pub record ReadsAs (x : Kept) (width address refusal value origin back : ℕ) (t : Kept) : Type 0 where
  pub found : Origin
  pub reads : Reads x width address refusal value found t
  pub origin_is : origin ≡ origin_number found
  pub back_is : back ≡ marks_back found

-- LINE: "lends back the 16 bytes of the line's most recent version", whose bytes are copied, with its companion's refusal. "A refused LINE
-- lends an empty part".
pub record CopiesLine (r : Registers) (m : Lent) (line refusal : ℕ) (before after : List ℕ) : Type 0 where
  pub part : List ℕ
  pub lends : Looks (LINE line) r m (lending part)
  pub companion : Looks (LINE_REFUSAL line) r m (outcome refusal)
  pub bytes_is : after ≡ copied part before

-- CHECK: yes is 1, no is 0.
pub record ChecksAs (x : Kept) (refusal yes : ℕ) : Type 0 where
  pub says : Bool
  pub checks : Promises CHECK x (verdict refusal says) x
  pub yes_is : yes ≡ cond says 1 0
