-- `written::set` meets its contract.
use Rattle.written.proofs.Setting.{set-asks, set_told}
use Rattle.written.proofs.Areas.{asks-near}
use Rattle.written.proofs.set.Goals as goal

pub group_at-group-requires : goal.group_at-group-requires
group_at-group-requires c = asks-near _ _ _ _ c.requires.0 c.frame_at-frame.ensures

pub regroup-after-requires : goal.regroup-after-requires
regroup-after-requires c =
    (set-asks _ _ _ c.requires.0 _ _ c.frame_at-frame.ensures c.bound_of-bound.ensures.1, c.requires.1)

pub put_group-requires : goal.put_group-requires
put_group-requires c = asks-near _ _ _ _ c.requires.0 c.frame_at-frame.ensures

pub returns : goal.returns
returns c =
    set_told _ _ _ _ _ _ _ _ _ c.frame_at-frame.ensures c.group_at-group.ensures c.bound_of-bound.ensures c.regroup-after.ensures c.put_group.ensures
