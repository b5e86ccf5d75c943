-- `written::enter` meets its contract.
use Prim.Native.Nat.{◌≤◌}
use Rattle.written.proofs.Entering.{Settling}
use Rattle.written.proofs.enter.Given as goal

abbrev pub invariant-loop-t : goal.invariant-loop-t
invariant-loop-t l = (l.used ≤ 256) × Settling l.kept l.used l.initial.history l.t l.history
