-- `written::cut` meets its contract.
use Rattle.written.proofs.Windows.{cut-told, cut_fits}
use borrow.Author.Rules.{rules}
use Rattle.written.proofs.cut.Goals as goal

pub overflow_add-result : goal.overflow_add-result
overflow_add-result c = search (rules, cut_fits)

pub returns : goal.returns
returns c = cut-told _ _ _ _ _ _ _ c.requires.0 c.before_wrap.ensures c.after_wrap.ensures
