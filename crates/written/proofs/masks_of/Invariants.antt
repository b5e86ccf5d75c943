-- `written::masks_of` meets its contract.
use Rattle.written.proofs.Sweeping.{MasksTo}
use Rattle.written.proofs.masks_of.Given as goal

abbrev pub invariant-loop-t : goal.invariant-loop-t
invariant-loop-t l = MasksTo l.s l.u l.history l.t l.masks
