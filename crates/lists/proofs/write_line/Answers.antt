-- `lists::write_line` meets its contract.
use Rattle.std.proofs.lemmas.Slice.{put_mid-paste}
use borrow.Author.Rules.{rules}
use Rattle.lists.specs.Lines.{paste_line}
use Rattle.lists.proofs.write_line.Goals as goal

pub returns : goal.returns
unfolding paste_line
returns c = search (rules, put_mid-paste)
