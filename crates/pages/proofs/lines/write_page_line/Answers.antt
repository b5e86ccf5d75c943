-- `pages::lines::write_page_line` meets its contract.
use Rattle.pages.proofs.Places.{page-written}
use Rattle.pages.proofs.lines.write_page_line.Goals as goal

pub returns : goal.returns
returns c = search page-written
