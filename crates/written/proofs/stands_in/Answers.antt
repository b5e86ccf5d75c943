-- `written::stands_in` meets its contract.
use mathlib.Core.Path.{◌∙◌}
use Rattle.written.proofs.Blocks.{stands-told}
use Rattle.written.proofs.stands_in.Goals as goal

pub returns : goal.returns
returns c = c.is_some.ensures ∙ stands-told _ _ _ _ _ _ _ _ c.saturating_sub.ensures c.min-top.ensures c.newest_bit.ensures
