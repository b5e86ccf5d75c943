-- Reads that ended well, and the end of input: what was said to the input that was fed, and then at its end, is that input's transcript.
-- Assumes nothing.
use mathlib.Core.Path.{◌≡◌}
use mathlib.Core.List.{◌++◌}
use Prim.Native.Nat.{ℕ, ◌+◌, ◌≤◌}
use lib.ListN.{length}
use Rattle.std.specs.Prelude.{Ok, Some}
use Rattle.text.specs.Parts.{Text}
use Rattle.store.specs.Shown.{Lent, lengths_of}
use Rattle.replies.specs.Answers.{longest, longest_end}
use Rattle.session.specs.declared.Runner.{Runner}
use Rattle.session.specs.Transcript.{transcript}
use Rattle.session.specs.Running.{Finishes}
use Rattle.session.proofs.Streaming.{says-transcript}
use Rattle.runner.specs.Reading.{ReadsAll}

pub read-transcript : {E : Type 0} {m after left : Lent} {s : Runner} {first out : Text} {end : ℕ} (a : ReadsAll {E = E} m (Ok (Some s)) after) (f : Finishes s after first left out end)
    → longest + longest_end ≤ length first → a.fed.3 ++ f.said ≡ transcript (lengths_of m) a.fed.2
read-transcript {m = m} {after = after} {s = s} a f room =
    let g = a.fed in
    says-transcript g.0 s m after g.2 g.3 f.said g.1 g.4 (f.ends room)
