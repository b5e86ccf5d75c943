-- `text::part_end` meets its contract.
use Prim.Native.Nat.{◌-◌}
use Rattle.text.proofs.Fields.{Scanning}
use Rattle.text.proofs.part_end.Given as goal

abbrev pub invariant-loop-i : goal.invariant-loop-i
invariant-loop-i l = Scanning l.separator l.bytes l.from l.i

abbrev pub decreases-loop-i : goal.decreases-loop-i
decreases-loop-i l = l.count - l.i
