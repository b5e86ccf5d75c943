-- `transcripts::show` is safe: what is kept is within its buffer.
use Prim.Native.Nat.{◌≤◌}
use Rattle.transcripts.proofs.show.Given as goal

abbrev pub invariant-loop-turn : goal.invariant-loop-turn
invariant-loop-turn g l = l.kept ≤ 65536
