-- `wellformed::ring` meets its contract.
use Rattle.std.proofs.Common.{ap, not}
use Rattle.wellformed.proofs.Rings.{ring-unordered, ring-decided}
use Rattle.wellformed.proofs.ring.Goals as goal

pub returns-then-in_order : goal.returns-then-in_order
returns-then-in_order c =
    ring-decided _ _ _ _ _ _ _ _ c.if-ring.false c.if-ring-2.false c.in_order.ensures (ap not c.if-in_order.true) c.all_paged.ensures

pub returns-else-in_order : goal.returns-else-in_order
returns-else-in_order c = rw c.if-in_order.false (ring-unordered _ _ _ _ _ _ _ c.in_order.ensures (ap not c.if-in_order.false))
