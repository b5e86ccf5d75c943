-- `written::rollback` meets its contract.
use Rattle.written.proofs.Sweeping.{rolled-next, rolled-swept}
use Rattle.written.proofs.rollback.Goals as goal

pub returns-then-tag-lt255 : goal.returns-then-tag-lt255
returns-then-tag-lt255 c = rolled-next _ _ _ _ c.enter.ensures.entered c.if-tag-lt255.true

pub returns : goal.returns
returns c =
    rolled-swept _ _ _ _ c.enter.ensures.entered _ c.if-tag-lt255.false c.sweep.ensures
