-- `pages::segment::pages_below` meets its contract: the loop keeps an edge and halves what lies between.
use Prim.Native.Nat.{◌-◌}
use Rattle.pages.specs.Ring.{index_at}
use Rattle.pages.proofs.Halving.{Edge}
use Rattle.pages.proofs.segment.pages_below.Given as goal

abbrev pub invariant-loop-low : goal.invariant-loop-low
invariant-loop-low l =
    Edge l.ring.used (index_at l.ring.shape.frames l.ring.shape.omf l.ring.pages l.ring.first l.owners) l.limit l.low l.high

abbrev pub decreases-loop-low : goal.decreases-loop-low
decreases-loop-low l = l.high - l.low
