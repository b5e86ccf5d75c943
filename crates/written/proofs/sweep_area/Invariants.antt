-- `written::sweep_area` meets its contract.
use Rattle.lists.proofs.Lists.{RewrittenFrom}
use Rattle.written.specs.Bits.{place_of}
use Rattle.written.specs.Steps.{masked_of}
use Rattle.written.proofs.sweep_area.Given as goal

abbrev pub invariant-loop-line : goal.invariant-loop-line
invariant-loop-line l =
    RewrittenFrom (place_of l.shape.lines l.area 0) (masked_of l.shape.frames l.shape.omf l.area l.history) l.initial.groups l.shape.lines l.line l.groups
