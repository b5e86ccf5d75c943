-- What the program has fed to the session. What it writes no contract can say.
use Rattle.std.specs.Prelude.{◌≡◌, [], Option, Result, IfOk, IfSome, MatchOption}
use Rattle.text.specs.Parts.{Text}
use Rattle.store.specs.Shown.{Lent, lengths_of}
use Rattle.session.specs.declared.Runner.{Runner}
use Rattle.session.specs.Transcript.{beginning}
use Rattle.session.specs.Running.{StandsFor, Feeds}

-- A chunk answered: if all went well, every byte of it was fed, and there is a runner to go on with.
pub record AnswersChunk {E : Type 0} (r : Runner) (before : Lent) (chunk : Text) (result : Result Runner E) (after : Lent) : Type 0 where
  pub lengths : lengths_of after ≡ lengths_of before
  pub fed : IfOk result (λ s. (said : Text) × Feeds r before chunk said s after)

-- A read that went well: if there may be more, some input was fed whole (none, if it was interrupted); that it is what came is read in the code. At
-- the end of input there is no other runner, and lent memory is as it was.
pub record Reads {E : Type 0} (r : Runner) (before : Lent) (result : Result (Option Runner) E) (after : Lent) : Type 0 where
  pub lengths : lengths_of after ≡ lengths_of before
  pub went : IfOk result (λ more. MatchOption more (after ≡ before) (λ s. (input : Text) × (said : Text) × Feeds r before input said s after))

-- All reads: if they went well, to the end of input, an input was fed to a runner that starts.
pub record ReadsAll {E : Type 0} (before : Lent) (result : Result (Option Runner) E) (after : Lent) : Type 0 where
  pub lengths : lengths_of after ≡ lengths_of before
  pub fed : IfOk result (λ end. IfSome end (λ s. (r : Runner) × StandsFor r before beginning [] × (input : Text) × (said : Text) × Feeds r before input said s after))
