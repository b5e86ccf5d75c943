-- What the functions behind `feed` and `finish` promise each other: a line asked, and lines answered one after the other.
use Rattle.std.specs.Prelude.{ℕ, ◌+◌, ◌-◌, ◌≤◌, ◌<◌, ◌≡◌, Bool, true, false, cond, ◌||◌, [], eqb, length, drop}
use Rattle.text.specs.Parts.{Text, up_to}
use Rattle.text.specs.Output.{Puts}
use Rattle.records.specs.declared.Word.{Word}
use Rattle.records.specs.Records.{Asked}
use Rattle.records.specs.Records.Asked.{asks, turned_down}
use Rattle.tally.specs.declared.Tally.{Tally}
use Rattle.store.specs.Shown.{StoreState, Lent, Kept, kept, lengths_of}
use Rattle.replies.specs.Answers.{longest}
use Rattle.session.specs.declared.Runner.{Runner}
use Rattle.session.specs.Transcript.{Running, is_other, onward, told_to}
use Rattle.session.specs.Running.{Stored, tally_on, Made, Tells}

-- Whether a reset was accepted, after an answer of refusal n or 0. (Before the first accepted reset no other record is.)
unfoldable pub started_after : Bool → ℕ → Bool
started_after started n = started || eqb n 0

-- What a line asks for, now that a reset was accepted or not: 1 and 2 come before 3.
unfoldable pub early : (started : Bool) → Word → Bool
early true w = false
early false w = is_other w

unfoldable pub admitted : (started : Bool) → Asked → Asked
admitted started (turned_down n) = turned_down n
admitted started (asks w ns) = cond (early started w) (turned_down 3) (asks w ns)

-- What the runner holds between two lines, with its lent memory.
pub record Desk : Type 0 where
  pub state : StoreState
  pub started : Bool
  pub tally : Tally
  pub lent : Lent

abbrev pub desk_of : StoreState → Bool → Tally → Lent → Desk
desk_of state started tally lent = record { state = state; started = started; tally = tally; lent = lent }

abbrev pub kept_on : Desk → Kept
kept_on d = kept d.state d.lent

-- It stands for a runner of the transcript.
pub record Stands (d : Desk) (x : Running) : Type 0 where
  pub tally : d.tally ≡ tally_on x
  pub store : Stored d.started (kept_on d) x.store

-- Lines answered: for each runner that the desk stood for, the one that it stands for now. What is to be done with the text from a place on, with
-- so much room, is what was done and then what is to be done with the rest and the room that is left.
pub record Goes (d : Desk) (x : Running) (room : ℕ) (text : Text) (e : Desk) (used : ℕ) (said : Text) (left-room : ℕ) (rest : Text) : Type 0 where
  pub now : Running
  pub stands : Stands e now
  pub told : told_to (lengths_of d.lent) room x [] text ≡ onward used said (told_to (lengths_of d.lent) left-room now [] rest)
  pub made : Made x now (kept_on d) (kept_on e)

-- The lines that end in a text from a place on, answered into an output from a place on, while there is room for the longest answer.
pub record Lines (d : Desk) (text : Text) (from : ℕ) (first : Text) (at : ℕ) (e : Desk) (out : Text) (used filled : ℕ) : Type 0 where
  pub lengths : lengths_of e.lent ≡ lengths_of d.lent
  pub low : from ≤ used
  pub within : used ≤ length text
  pub said : Text
  pub fits : at + length said ≤ length first
  pub puts : Puts first at said out filled
  pub moved : used ≡ from → filled ≡ at
  pub goes : (x : Running) → Stands d x → Goes d x (length first - at) (drop from text) e (used - from) said (length first - filled) (drop used text)

-- None is left, or there is no room.
abbrev pub NoneLeft : (text : Text) (room used filled : ℕ) → Type 0
NoneLeft text room used filled = longest ≤ room - filled → length (drop used text) ≤ up_to 10 (drop used text)

-- A runner without its line, and its lent memory.
abbrev pub desk_in : Runner → Lent → Desk
desk_in r m = desk_of r.state r.started r.tally m

-- The rest of a chunk from a place on, with the output from a place on: its lines, and what is left of it.
pub record Rested (d : Desk) (text : Text) (from : ℕ) (first : Text) (at : ℕ) (s : Runner) (after : Lent) (out : Text) (used filled : ℕ) : Type 0 where
  pub lengths : lengths_of after ≡ lengths_of d.lent
  pub low : from ≤ used
  pub within : used ≤ length text
  pub moves : longest ≤ length first - at → from < length text → from < used
  pub said : Text
  pub fits : at + length said ≤ length first
  pub puts : Puts first at said out filled
  pub tells : (x : Running) → Stands d x → Tells (kept_on d) x s after (used - from) said (told_to (lengths_of d.lent) (length first - at) x [] (drop from text))
