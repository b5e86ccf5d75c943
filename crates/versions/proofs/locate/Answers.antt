-- `versions::locate` meets its contract.
use Rattle.versions.proofs.Finding.{found-entry}
use Rattle.versions.proofs.locate.Goals as goal

pub page_at-page-requires : goal.page_at-page-requires
page_at-page-requires c = search found-entry
