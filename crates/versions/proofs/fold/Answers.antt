-- `versions::fold` meets its contract.
use native.Mathlib.Omega.{arith}
use borrow.Author.Rules.{rules}
use Rattle.pages.proofs.Halving.{page-lent}
use Rattle.versions.proofs.Folding.{pages-stop, pages-ask, pages-next, noted-pages-next, noted-owner}
use Rattle.versions.proofs.fold.Goals as goal

pub bounds-owners-page : goal.bounds-owners-page
bounds-owners-page c =
    omega (arith, c.loop-i.invariant.1.kept.long, page-lent _ _ _ _ _ c.args.owners.now c.requires.0.ring _ _ c.frame_at-page.ensures)

pub returns-then-k-index : goal.returns-then-k-index
returns-then-k-index c =
    let i = c.loop-i.invariant in (
      pages-stop _ _ _ _ _ _ _ _ _ _ i.0 c.loop-i-test.true _ _ _ c.frame_at-page.ensures (noted-owner _ _ _ _ _ _ i.1 c.requires.0.ring.first_below _ c.frame_at-page.ensures)
          c.owner_index-index.ensures (omega (arith, c.if-k-index.true)),
      i.0.same,
      i.1.same,
    )

pub fold_page-requires : goal.fold_page-requires
fold_page-requires c =
    let i = c.loop-i.invariant in
    pages-ask _ _ _ _ _ _ _ _ _ _ i.0 c.loop-i-test.true _ _ _ c.frame_at-page.ensures (noted-owner _ _ _ _ _ _ i.1 c.requires.0.ring.first_below _ c.frame_at-page.ensures)
    c.owner_index-index.ensures _ _ c.requires.0 (omega (arith, c.if-k-index.false, c.requires.1)) i.1.kept.long

pub loop-i-preserved : goal.loop-i-preserved
loop-i-preserved c =
    let i = c.loop-i.invariant in
    let own = noted-owner _ _ _ _ _ _ i.1 c.requires.0.ring.first_below _ c.frame_at-page.ensures in (
      pages-next _ _ _ _ _ _ _ _ _ _ i.0 c.loop-i-test.true _ _ _ c.frame_at-page.ensures own c.owner_index-index.ensures (omega (arith, c.if-k-index.false)) _ (search rules) c.fold_page.ensures.copied,
      noted-pages-next _ _ _ _ c.requires.0.lines_by c.requires.0.owners_long _ _ i.1 _ _ _ c.frame_at-page.ensures own c.owner_index-index.ensures _ c.fold_page.ensures.noted,
    )
