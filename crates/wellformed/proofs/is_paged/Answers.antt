-- `wellformed::is_paged` meets its contract.
use Rattle.std.proofs.Common.{ap, not}
use Rattle.wellformed.proofs.Rings.{paged-unneeded, paged-told}
use Rattle.wellformed.proofs.is_paged.Goals as goal

pub returns-then-not-needed : goal.returns-then-not-needed
returns-then-not-needed c = paged-unneeded _ _ c.args.owners.now _ _ _ _ c.requires.0 c.requires.2 _ c.needed.ensures (ap not c.if-not-needed.true)

pub returns : goal.returns
returns c = paged-told _ _ c.args.owners.now _ _ _ _ c.requires.0 c.requires.2 _ c.needed.ensures (ap not c.if-not-needed.false) _ c.page_at-page.ensures.0 _ c.is_own.ensures
