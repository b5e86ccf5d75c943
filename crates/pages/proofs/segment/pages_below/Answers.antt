use native.Mathlib.Omega.{arith}
use Rattle.pages.proofs.Halving.{page-lent, halve-up, halve-down, edge-leading}
use Rattle.pages.proofs.segment.pages_below.Goals as goal

pub bounds-owners-page : goal.bounds-owners-page
bounds-owners-page c = search page-lent

pub loop-low-preserved-then-owner_index-limit : goal.loop-low-preserved-then-owner_index-limit
loop-low-preserved-then-owner_index-limit c = search halve-up

pub loop-low-preserved : goal.loop-low-preserved
loop-low-preserved c =
    halve-down _ _ _ _ _ _ c.requires _ _ _ _ _ _ c.loop-low.invariant (omega arith) (omega arith) c.frame_at-page.ensures c.owner_index.ensures c.if-owner_index-limit.false

pub returns : goal.returns
returns c = search edge-leading
