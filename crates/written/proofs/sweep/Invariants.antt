-- `written::sweep` meets its contract.
use Prim.Native.Nat.{◌*◌, ◌/◌}
use Rattle.lists.proofs.Lists.{Rewritten}
use Rattle.written.specs.Steps.{masked_of}
use Rattle.written.proofs.sweep.Given as goal

abbrev pub invariant-loop-area : goal.invariant-loop-area
invariant-loop-area l =
    Rewritten (l.area * l.shape.lines) (λ at g. masked_of l.shape.frames l.shape.omf (at / l.shape.lines) l.history g) l.initial.groups l.groups
