-- The runner in code beside the runner of the transcript: what `start`, `feed` and `finish` promise.
use Rattle.std.specs.Prelude.{ℕ, ◌+◌, ◌≤◌, ◌<◌, min, ◌≡◌, Bool, true, false, List, [], ◌++◌, length, drop}
use Rattle.std.proofs.Math.Option.{none, some}
use Rattle.text.specs.Parts.{Text, split, up_to}
use Rattle.text.specs.Lines.{Holds}
use Rattle.text.specs.Output.{Puts}
use Rattle.tally.specs.declared.Tally.{Tally}
use Rattle.tally.specs.Counts.{most, tally_of}
use Rattle.rules.specs.Call.{Call}
use Rattle.store.specs.Shown.{StoreState, blank_state, Lent, Kept, kept, lengths_of, Ran, AnswersAs}
use Rattle.replies.specs.Answers.{longest, longest_end}
use Rattle.session.specs.declared.Runner.{Runner}
use Rattle.session.specs.Transcript.{Store, Running, Told, line_after, answers_to, told_to}

-- The state and lent memory that a session's store stands for: "Before the first reset that is the blank state, with L = 0".
abbrev pub Stored : Bool → Kept → Store → Type 0
Stored started s none = (started ≡ false) × (s.state ≡ blank_state)
Stored started s (some m) = (started ≡ true) × AnswersAs s m

-- The tally as the code counts it: up to the last 64-bit number.
abbrev pub tally_on : Running → Tally
tally_on x = tally_of (min most x.oks) (min most x.noes)

-- The runner in code and its lent memory stand for a runner of the transcript that has read a part of a line: no line feed is in it.
pub record StandsFor (r : Runner) (lent : Lent) (x : Running) (begun : Text) : Type 0 where
  pub reader : Holds r.reader begun
  pub part : length begun ≤ up_to 10 begun
  pub tally : r.tally ≡ tally_on x
  pub store : Stored r.started (kept r.state lent) x.store

-- State and lent memory are what the calls left that a runner of the transcript has made since: those of its lines and no others, and a
-- refused one leaves all as it was.
abbrev pub Made : (x y : Running) (before after : Kept) → Type 0
Made x y before after = (calls : List Call) × (y.calls ≡ x.calls ++ calls) × Ran before calls after

-- It takes as many bytes and says what the transcript's runner x is told, stands for it then, and has made its calls.
abbrev pub Tells : (before : Kept) (x : Running) (s : Runner) (after : Lent) (used : ℕ) (said : Text) → Told → Type 0
Tells before x s after used said t =
    (used ≡ t.used) × (said ≡ t.said) × StandsFor s after t.running t.left × Made x t.running before (kept s.state after)

-- What a call of `feed` does with a chunk: what is said is put into the output, which is as it was past that. Less room than the longest answer, and
-- nothing is taken.
pub record Taken (r : Runner) (before : Lent) (chunk first : Text) (s : Runner) (after : Lent) (out : Text) (used filled : ℕ) : Type 0 where
  pub lengths : lengths_of after ≡ lengths_of before
  pub within : used ≤ length chunk
  pub moves : longest ≤ length first → 0 < length chunk → 0 < used
  pub said : Text
  pub fits : length said ≤ length first
  pub puts : Puts first 0 said out filled
  pub full : length first < longest → (s ≡ r) × (after ≡ before) × (used ≡ 0) × (filled ≡ 0)
  pub tells : (x : Running) (begun : Text) → StandsFor r before x begun
      → Tells (kept r.state before) x s after used said (told_to (lengths_of before) (length first) x begun chunk)

-- The end of input, within a line that was begun: what is said then ends the transcript.
abbrev pub Ends : Runner → Lent → (said : Text) → Type 0
Ends r m said = (x : Running) (begun : Text) → StandsFor r m x begun → said ≡ answers_to (lengths_of m) x (split 10 begun [])

-- The end of input: nothing is done with an output that has not room for the longest answer and the longest line of the tally; else the answer to
-- the line that was begun and the tally are put, and the lent memory is what that line's call leaves, if it makes one.
pub record Finishes (r : Runner) (before : Lent) (first : Text) (after : Lent) (out : Text) (end : ℕ) : Type 0 where
  pub lengths : lengths_of after ≡ lengths_of before
  pub said : Text
  pub fits : length said ≤ length first
  pub puts : Puts first 0 said out end
  pub full : length first < longest + longest_end → (end ≡ 0) × (out ≡ first) × (after ≡ before)
  pub ends : longest + longest_end ≤ length first → Ends r before said
  pub leaves : longest + longest_end ≤ length first → (x : Running) (begun : Text) → StandsFor r before x begun
      → (state : StoreState) × Made x (line_after (lengths_of before) x begun) (kept r.state before) (kept state after)

-- A session as a program runs it: the calls of `feed` on an input, with outputs of any size, and the bytes that they say. Each is given any
-- first part of what is still to come, and the next one the runner and lent memory that it left.
pub data Feeds : Runner → Lent → (input said : Text) → Runner → Lent → Type 0 where
  stop : {r : Runner} {m : Lent} → Feeds r m [] [] r m
  next : {r s t : Runner} {m n o : Lent} {first out : Text} {used filled : ℕ} (chunk rest : Text) {later : Text} (w : Taken r m chunk first s n out used filled)
      → Feeds s n (drop used chunk ++ rest) later t o → Feeds r m (chunk ++ rest) (w.said ++ later) t o
