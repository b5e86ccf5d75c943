-- `pages::lines::edit_page_line` meets its contract.
use Rattle.pages.proofs.Places.{page-edit}
use Rattle.pages.proofs.lines.edit_page_line.Goals as goal

pub returns : goal.returns
returns c = page-edit _ _ _ _ _ _ c.requires _ c.write_value.ensures
