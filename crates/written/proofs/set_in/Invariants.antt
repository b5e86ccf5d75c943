-- `written::set_in` meets its contract.
use Prim.Native.Nat.{◌*◌, ◌/◌, ◌%◌}
use Rattle.numbers.specs.Digits.{digit}
use Rattle.written.specs.Bits.{place_of}
use Rattle.written.proofs.Blanks.{Added}
use Rattle.written.proofs.set_in.Given as goal

abbrev pub invariant-loop-n : goal.invariant-loop-n
invariant-loop-n l =
    Added (λ g. digit g (l.frame % 16)) l.groups (place_of l.shape.lines (l.frame / 16) (l.block * 8)) 8 l.n l.sum
