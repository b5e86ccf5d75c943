-- `wellformed::in_order` meets its contract.
use Rattle.std.proofs.Common.{ap, not, arith}
use Rattle.pages.proofs.Halving.{page-lent}
use Rattle.wellformed.proofs.Rings.{walked-falls, walked_next}
use Rattle.wellformed.proofs.in_order.Goals as goal

pub is_backed-requires : goal.is_backed-requires
is_backed-requires c = (c.requires.0, page-lent _ _ _ _ _ c.args.owners.now c.requires.1 _ _ c.frame_at-page.ensures)

pub bounds-owners-page : goal.bounds-owners-page
bounds-owners-page c = page-lent _ _ _ _ _ c.args.owners.now c.requires.1 _ _ c.frame_at-page.ensures

pub returns-then-index-last : goal.returns-then-index-last
returns-then-index-last c = walked-falls _ _ _ _ _ _ _ _ _ c.loop-i.invariant c.loop-i-test.true c.frame_at-page.ensures _ c.owner_index-index.ensures (omega (arith, c.if-index-last.true))

pub loop-i-preserved : goal.loop-i-preserved
loop-i-preserved c = walked_next _ _ _ _ _ _ _ _ _ c.loop-i.invariant c.loop-i-test.true c.frame_at-page.ensures _ _ c.is_backed.ensures (ap not c.if-not-is_backed.false) c.owner_index-index.ensures (omega (arith, c.if-index-last.false))
