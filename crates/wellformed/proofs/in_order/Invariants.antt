-- `wellformed::in_order` meets its contract.
use Rattle.written.specs.Bits.{written_at}
use Rattle.wellformed.proofs.Rings.{Walked}
use Rattle.wellformed.proofs.in_order.Given as goal

abbrev pub invariant-loop-i : goal.invariant-loop-i
invariant-loop-i l = Walked (written_at l.ring.shape l.groups l.history) l.ring.pages l.ring.first l.table l.owners l.i l.last
