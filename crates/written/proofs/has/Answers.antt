-- `written::has` meets its contract.
use Rattle.written.proofs.Areas.{asks-near}
use Rattle.written.proofs.Unsetting.{has-not, has-told}
use Rattle.written.proofs.has.Goals as goal

pub group_at-group-requires : goal.group_at-group-requires
group_at-group-requires c = asks-near _ _ _ _ c.requires c.frame_at-frame.ensures

pub returns-then-is_set : goal.returns-then-is_set
returns-then-is_set c =
    has-told _ _ _ _ _ c.frame_at-frame.ensures c.group_at-group.ensures _ _ c.is_set.ensures c.if-is_set.true c.bound_of.ensures.0

pub returns-else-is_set : goal.returns-else-is_set
returns-else-is_set c =
    has-not _ _ _ _ _ c.frame_at-frame.ensures c.group_at-group.ensures _ c.is_set.ensures c.if-is_set.false
