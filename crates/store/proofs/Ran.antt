-- Calls made one after the other: none, one, and some after others. Assumes nothing.
use mathlib.Core.List.{List, [], ◌∷◌, ◌++◌}
use Rattle.rules.specs.Call.{Call, Answer}
use Rattle.rules.specs.Promise.{Run}
use Rattle.rules.specs.Promise.RunBy.{stop, next}
use Rattle.storage.specs.Storage.{store}
use Rattle.store.specs.Shown.{Kept, Promises, Ran}

pub ran-none : (s : Kept) → Ran s [] s
ran-none s = ([], stop)

pub ran-one : {s t : Kept} {c : Call} {a : Answer} → Promises c s a t → Ran s (c ∷ []) t
ran-one {a = a} h = (a ∷ [], next h stop)

run-then : {s t u : Kept} {cs ds : List Call} {given later : List Answer} → Run store s cs given t → Run store t ds later u → Run store s (cs ++ ds) (given ++ later) u
run-then stop r = r
run-then (next h q) r = next h (run-then q r)

pub ran_then : {s t u : Kept} {cs ds : List Call} → Ran s cs t → Ran t ds u → Ran s (cs ++ ds) u
ran_then f g = (f.0 ++ g.0, run-then f.1 g.1)
