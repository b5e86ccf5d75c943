-- Answers as the code has them.
use Rattle.std.specs.Prelude.{ℕ}
use Rattle.rules.specs.Call.{Answer}
use Rattle.rules.specs.Call.Answer.{outcome, reading, counting}
use Rattle.store.specs.Shown.{shown_origin}
use Rattle.replies.specs.declared.Shown.{Shown}
use Rattle.replies.specs.declared.Shown.TheVariants.{Nothing, Read, Counts}

-- The answer, of which the code has the refusal or 0 and what stands behind `ok`.
unfoldable pub answer_of : ℕ → Shown → Answer
answer_of n Nothing = outcome n
answer_of n (Read value origin) = reading n value (shown_origin origin)
answer_of n (Counts live pages) = counting n live pages
