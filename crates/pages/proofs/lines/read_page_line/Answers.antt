-- `pages::lines::read_page_line` meets its contract.
use Rattle.pages.proofs.Places.{page-read}
use Rattle.pages.proofs.lines.read_page_line.Goals as goal

pub returns : goal.returns
returns c = search page-read
