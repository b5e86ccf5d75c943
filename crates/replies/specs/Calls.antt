-- The calls that records ask for.
use Rattle.std.specs.Prelude.{ℕ, List, get_or}
use Rattle.records.specs.declared.Word.{Word}
use Rattle.records.specs.declared.Word.TheVariants.{Reset, Read, Write, Mark, Back, Advance, Counts}
use Rattle.rules.specs.Sizing.{settings_of}
use Rattle.rules.specs.Call.{Call}
use Rattle.rules.specs.Call.Look.{COUNTS}
use Rattle.rules.specs.Call.Change.{WRITE, MARK, ROLLBACK, ADVANCE}
use Rattle.rules.specs.Call.Act.{READ, LOOK, CHANGE}
use Rattle.rules.specs.Call.Call.{RESET, ON}

-- A number of a record, counted from 0. (Each word has as many as it takes.)
abbrev pub nth : List ℕ → ℕ → ℕ
nth ns i = get_or ns i 0

-- "Records: `reset` L F P; `read` width address; `write` width address value; `mark`; `back` k; `advance` k; `counts`", and the call that each asks
-- for.
unfoldable pub call_of : Word → List ℕ → Call
call_of Reset ns = RESET (settings_of (nth ns 0) (nth ns 1) (nth ns 2))
call_of Read ns = ON (READ (nth ns 0) (nth ns 1))
call_of Write ns = ON (CHANGE (WRITE (nth ns 0) (nth ns 1) (nth ns 2)))
call_of Mark ns = ON (CHANGE MARK)
call_of Back ns = ON (CHANGE (ROLLBACK (nth ns 0)))
call_of Advance ns = ON (CHANGE (ADVANCE (nth ns 0)))
call_of Counts ns = ON (LOOK COUNTS)
