-- `pages::segment::nth_page` meets its contract.
use Rattle.pages.proofs.Owning.{page-round}
use Rattle.pages.proofs.segment.nth_page.Goals as goal

pub returns : goal.returns
returns c = search page-round
