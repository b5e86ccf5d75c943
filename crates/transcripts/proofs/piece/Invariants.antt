-- `transcripts::piece` is safe and stays within the input.
use Prim.Native.Nat.{◌≤◌}
use lib.ListN.{length}
use Rattle.transcripts.proofs.piece.Given as goal

abbrev pub invariant-loop : goal.invariant-loop
invariant-loop l = l.at ≤ length l.input
