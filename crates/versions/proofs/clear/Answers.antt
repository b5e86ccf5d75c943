-- `versions::clear` meets its contract.
use native.Mathlib.Omega.{arith}
use Rattle.pages.proofs.Halving.{page-lent}
use Rattle.versions.proofs.Folding.{clearing-asks}
use Rattle.versions.proofs.clear.Goals as goal

pub bounds-owners-page : goal.bounds-owners-page
bounds-owners-page c = page-lent _ _ _ _ _ c.args.owners.now c.requires.ring _ _ c.frame_at-page.ensures

pub clear_page-requires : goal.clear_page-requires
clear_page-requires c = clearing-asks _ _ _ _ _ _ _ _ _ c.requires _ _ (omega arith) c.loop-i-test.true _ c.frame_at-page.ensures
