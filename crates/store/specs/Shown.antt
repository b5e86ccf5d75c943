-- What a caller of the store needs to name, besides `rules`, to state what its calls give.
use Rattle.std.specs.Prelude.{ℕ, ◌≡◌, List, Result}
use Rattle.rules.specs.Settings.{Pieces}
use Rattle.rules.specs.Call.{Call, Answer, Origin}
use Rattle.rules.specs.Plain.{Model, answers_from}
use Rattle.rules.specs.Promise.{Promise, Run}
use Rattle.rules.specs.declared.Refusal.{Refusal}
use Rattle.versions.specs.declared.Origin as code
use Rattle.versions.specs.Newest.{origin_of}
use Rattle.storage.specs.declared.State.{State}
use Rattle.storage.specs.Steps.{fresh_state}
use Rattle.storage.specs.Storage as storage
use Rattle.storage.specs.Storage.{Storage, memory_of, lengths_in, store}
use Rattle.access.specs.declared.Reading.{Reading}
use Rattle.access.specs.Reading as reading
use Rattle.marks.specs.declared.Counted.{Counted}
use Rattle.marks.specs.Counting as counting

-- The lent memory, and the lengths of its pieces in elements.
abbrev pub Lent : Type 0
Lent = storage.Lent

abbrev pub lent_of : (archive pool groups table owners history : List ℕ) → Lent
lent_of a p g t o h = memory_of a p g t o h

abbrev pub lengths_of : Lent → Pieces
lengths_of m = lengths_in m

abbrev pub lent_lengths : (archive pool groups table owners history : List ℕ) → Pieces
lent_lengths a p g t o h = lengths_of (lent_of a p g t o h)

-- The papers' origin for each case of READ's answer.
abbrev pub shown_origin : code.Origin → Origin
shown_origin o = origin_of o

-- What READ gave, its value and the papers' origin, and COUNTS' answer, refused or not.
abbrev pub value_in : Result Reading Refusal → ℕ
value_in given = reading.value_in given

abbrev pub origin_in : Result Reading Refusal → Origin
origin_in given = reading.origin_in given

abbrev pub counts_in : Result Counted Refusal → Answer
counts_in given = counting.counts_in given

-- What passes from call to call: "the state and lent memory just as the call before it, refused or not, returned or left them; nothing
-- else".
abbrev pub Kept : Type 0
Kept = Storage

abbrev pub StoreState : Type 0
StoreState = State

-- "the blank state, with L = 0".
abbrev pub blank_state : StoreState
blank_state = fresh_state 0 0 0

abbrev pub kept : StoreState → Lent → Kept
kept s m = record { state = s; memory = m }

abbrev pub lengths_kept : Kept → Pieces
lengths_kept s = lengths_of s.memory

-- What a call promises, `rules`' Promise.
abbrev pub Promises : Call → Kept → Answer → Kept → Type 0
Promises c s a t = Promise store c s a t

-- Calls made one after the other.
abbrev pub Ran : Kept → List Call → Kept → Type 0
Ran s calls t = (given : List Answer) × Run store s calls given t

-- It gives, to every list of calls, the answers of a plain store and cache.
abbrev pub AnswersAs : Kept → Model → Type 0
AnswersAs s m = (u : Kept) (calls : List Call) (given : List Answer) → Run store s calls given u → given ≡ answers_from (lengths_kept s) m calls
