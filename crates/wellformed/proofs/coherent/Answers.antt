-- `wellformed::coherent` meets its contract.
use Rattle.std.proofs.Common.{ap, not}
use Rattle.wellformed.proofs.Deciding.{all-next}
use Rattle.wellformed.proofs.Recent.{not_valid, entry-fails, entry-passes, entries-end}
use Rattle.wellformed.proofs.coherent.Goals as goal
use Rattle.wellformed.proofs.coherent.Goals.{else-cache-at-eq1-via-then-cache-at-eq1+else-not-is_recent, else-cache-at-eq1-via-else-cache-at-eq1}

pub returns-then-not-is_recent-clause-decides : goal.returns-then-not-is_recent-clause-decides
returns-then-not-is_recent-clause-decides c =
    entry-fails _ _ _ _ _ _ _ c.loop-e.invariant.0 _ _ _ c.bytes_of.ensures c.is_recent.ensures c.if-cache-at-eq1.true (ap not c.if-not-is_recent.true)

pub loop-e-preserved : goal.loop-e-preserved
loop-e-preserved c = (
  c.loop-e.invariant.0,
  all-next _ _ c.loop-e.invariant.1
      (elim c.else-cache-at-eq1.branch [
        | else-cache-at-eq1-via-then-cache-at-eq1+else-not-is_recent w ↦ entry-passes _ _ _ _ _ _ _ c.loop-e.invariant.0 _ _ _ w.bytes_of.ensures w.is_recent.ensures (ap not w.if-not-is_recent.false)
        | else-cache-at-eq1-via-else-cache-at-eq1 w ↦ not_valid _ _ _ _ _ _ _ c.loop-e.invariant.0 _ w.if-cache-at-eq1.false
      ]),
)

pub returns-clause-decides : goal.returns-clause-decides
returns-clause-decides c = entries-end _ _ _ _ _ _ _ _ c.loop-e.invariant.0 c.loop-e.invariant.1 c.loop-e-test.false
