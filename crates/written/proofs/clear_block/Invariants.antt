-- `written::clear_block` meets its contract.
use Prim.Native.Nat.{◌*◌, ◌/◌}
use Rattle.written.specs.Bits.{place_of}
use Rattle.written.specs.Steps.{unset_in}
use Rattle.lists.proofs.Lists.{RewrittenFrom}
use Rattle.written.proofs.clear_block.Given as goal

abbrev pub invariant-loop-n : goal.invariant-loop-n
invariant-loop-n l =
    RewrittenFrom (place_of l.shape.lines (l.frame / 16) (l.block * 8)) (unset_in l.frame) l.initial.groups 8 l.n l.groups
