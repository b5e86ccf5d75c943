-- `border::copy_line` meets its contract.
use mathlib.Core.Path.{◌∙◌}
use Rattle.border.proofs.Answers.{copied-whole, copied_none}
use Rattle.border.proofs.copy_line.Goals as goal

pub returns-then-part-ne16 : goal.returns-then-part-ne16
returns-then-part-ne16 c = copied_none _ _ c.if-part-ne16.true

pub returns : goal.returns
returns c = c.copy_from_slice.ensures.after ∙ copied-whole _ _ c.if-part-ne16.false
