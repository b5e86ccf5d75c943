-- `wellformed::is_backed` meets its contract.
use borrow.Author.Tests.{ne_eqb}
use Rattle.wellformed.proofs.Rings.{backed-far, backed-past, backed-other, backed-told}
use Rattle.wellformed.proofs.is_backed.Goals as goal
use Rattle.wellformed.proofs.is_backed.Goals.{then-shape-frame-via-then-shape-frame, then-shape-frame-via-else-shape-frame+then-shape-block}

pub returns-then-shape-frame : goal.returns-then-shape-frame
returns-then-shape-frame c =
    elim c.then-shape-frame.branch [
      | then-shape-frame-via-then-shape-frame w ↦ backed-far _ _ _ _ w.if-shape-frame.true
      | then-shape-frame-via-else-shape-frame+then-shape-block w ↦ backed-past _ _ _ _ w.if-shape-block.true
    ]

pub returns-then-page_at-page : goal.returns-then-page_at-page
returns-then-page_at-page c =
    backed-told _ _ _ _ _ _ c.if-shape-frame.false c.if-shape-block.false c.page_at.ensures.0 c.if-page_at-page.true c.needed.ensures

pub returns-else-page_at-page : goal.returns-else-page_at-page
returns-else-page_at-page c =
    rw (ne_eqb _ _ c.if-page_at-page.false) (backed-other _ _ _ _ _ c.page_at.ensures.0 c.if-page_at-page.false)
