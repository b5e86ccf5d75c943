-- `transcripts::expand` is safe and ends: each part takes bytes of the script. It stays within the input.
use Prim.Native.Nat.{◌≤◌}
use lib.ListN.{length}
use Rattle.transcripts.proofs.expand.Given as goal

abbrev pub invariant-loop-times : goal.invariant-loop-times
invariant-loop-times l = l.filled ≤ length l.input

abbrev pub decreases-loop-times : goal.decreases-loop-times
decreases-loop-times l = length l.rest
