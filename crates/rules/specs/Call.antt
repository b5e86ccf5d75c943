-- Calls on a store and their answers, as data.
use Rattle.std.specs.Prelude.{ℕ, Bool, false, List, [], ◌++◌, length, drop}
use Rattle.rules.specs.Settings.{Settings}

-- A write: what a history is made of, and (request 2.1) an item of a block of writes.
pub record Write : Type 0 where
  pub width : ℕ
  pub address : ℕ
  pub value : ℕ

-- Acts that change nothing. LINE_REFUSAL is LINE's companion: "A companion call on the same arguments gives its refusal, or 0."
pub data Look : Type 0 where
  LINE LINE_REFUSAL : (number : ℕ) → Look
  COUNTS : Look

-- Acts that change the store, and whose answer is their refusal or 0 alone.
pub data Change : Type 0 where
  WRITE : (width address value : ℕ) → Change
  MARK : Change
  ROLLBACK ADVANCE : (k : ℕ) → Change

-- Acts: the single calls on a store that a RESET began, but CHECK. READ changes the cache alone, and answers with values.
pub data Act : Type 0 where
  READ : (width address : ℕ) → Act
  LOOK : Look → Act
  CHANGE : Change → Act

-- "The calls"; and (request 2.1) "One call takes a list of writes and a list for answers": what the answer list holds before is an argument, and
-- its length a lent length.
pub data Call : Type 0 where
  RESET : Settings → Call
  CHECK : Call
  ON : Act → Call
  WRITE_BLOCK : (items : List Write) (list : List ℕ) → Call

-- An item is a single WRITE.
abbrev pub write_of : Write → Act
write_of w = CHANGE (WRITE w.width w.address w.value)

-- Where a line's most recent version lies,
pub data Place : Type 0 where
  in_frame : (back : ℕ) → Place
  in_archive : Place

-- and what READ says of it: "Origin is the cache, or a frame given by how many marks back it lies (0 is CMF), or the archive"; and (request 2.3) "a read
-- whose line no surviving write has touched gives value 0 and origin `e`".
pub data Origin : Type 0 where
  from_cache : Origin
  from : Place → Origin
  empty : Origin

-- "An answer is the refusal's number or 0, the values, the origin and a lent line's bytes." "A list or page that a request's call takes for
-- its answer is lent anew with that call: .. what the call leaves in it is part of the answer." In each constructor but LINE's, which lends a
-- part and has no number of its own, the refusal or 0 comes first.
pub data Answer : Type 0 where
  outcome : (refusal : ℕ) → Answer
  reading : (refusal value : ℕ) → Origin → Answer
  lending : (line : List ℕ) → Answer
  counting : (refusal live pages : ℕ) → Answer
  verdict : (refusal : ℕ) → Bool → Answer
  filling : (refusal : ℕ) → (left : List ℕ) → Answer

-- An answer list with the refusal or 0 of each item: "Answers past the last item are untouched" (request 2.1).
unfoldable pub filled : (refusals list : List ℕ) → List ℕ
filled refusals list = refusals ++ drop (length refusals) list

-- The refusal, or 0, that stands in an answer. (LINE's has none: its companion gives it.)
unfoldable pub number_in : Answer → ℕ
number_in (outcome n) = n
number_in (reading n v o) = n
number_in (lending x) = 0
number_in (counting n l p) = n
number_in (verdict n b) = n
number_in (filling n left) = n

-- "A refused call names the first rule broken .. returns nought for its values" (demand 1). "A refused LINE lends an empty
-- part of the archive. A refused READ names the archive as origin, and a refused CHECK says no." A refused block of writes
-- leaves its list as it was.
unfoldable pub refused : ℕ → Call → Answer
refused n (RESET s) = outcome n
refused n CHECK = verdict n false
refused n (ON (READ w a)) = reading n 0 (from in_archive)
refused n (ON (LOOK (LINE l))) = lending []
refused n (ON (LOOK (LINE_REFUSAL l))) = outcome n
refused n (ON (LOOK COUNTS)) = counting n 0 0
refused n (ON (CHANGE c)) = outcome n
refused n (WRITE_BLOCK items list) = filling n list
