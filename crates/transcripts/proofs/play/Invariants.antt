-- `transcripts::play` is safe and ends: each turn takes bytes of the input. It puts no more than the output holds.
use Prim.Native.Nat.{◌≤◌}
use lib.ListN.{length}
use Rattle.transcripts.proofs.play.Given as goal

abbrev pub invariant-loop-rest : goal.invariant-loop-rest
invariant-loop-rest l = l.filled ≤ length l.out

abbrev pub decreases-loop-rest : goal.decreases-loop-rest
decreases-loop-rest l = length l.rest
