-- `pages::lines::page_line` meets its contract.
use Rattle.pages.proofs.Places.{part-lent}
use Rattle.pages.proofs.lines.page_line.Goals as goal

pub returns : goal.returns
returns c = part-lent _ _ _ c.requires
