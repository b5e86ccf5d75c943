-- `written::block_has` meets its contract.
use Prim.Native.Nat.{◌+◌, ◌-◌, ◌*◌, ◌≤◌}
use mathlib.Core.Path.{◌≡◌}
use mathlib.Core.Bool.{false}
use Rattle.written.specs.Bits.{written_at}
use Rattle.written.proofs.Blocks.{NoneIn, NoneBefore}
use Rattle.written.proofs.block_has.Given as goal

abbrev pub invariant-loop-i : goal.invariant-loop-i
invariant-loop-i l =
    (l.from ≤ l.i) × NoneIn (written_at l.shape l.groups l.history) (l.block * 8 + l.n) l.from l.i × (l.found ≡ false)

abbrev pub decreases-loop-i : goal.decreases-loop-i
decreases-loop-i l = l.end - l.i

abbrev pub invariant-lines : goal.invariant-lines
invariant-lines l = NoneBefore (written_at l.shape l.groups l.history) l.block l.n l.from l.end × (l.found ≡ false)
