-- `written::newest_in_area` meets its contract.
use Rattle.written.proofs.Areas.{asks-near}
use Rattle.written.proofs.Runs.{area-is, area-none}
use Rattle.written.proofs.newest_in_area.Goals as goal

pub group_at-group-requires : goal.group_at-group-requires
group_at-group-requires c = asks-near _ _ _ _ c.requires c.frame_at-frame.ensures

pub returns-then-group-eq0 : goal.returns-then-group-eq0
returns-then-group-eq0 c = search area-none

pub returns : goal.returns
returns c = search area-is
