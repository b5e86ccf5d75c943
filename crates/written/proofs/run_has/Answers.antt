-- `written::run_has` meets its contract.
use native.Mathlib.Omega.{arith}
use Rattle.written.proofs.Areas.{asks-near}
use Rattle.written.proofs.Blocks.{up_fits, run_is, run-bare}
use Rattle.written.proofs.run_has.Goals as goal

pub group_at-group-requires : goal.group_at-group-requires
group_at-group-requires c = asks-near _ _ _ _ c.requires.0 c.frame_at-frame.ensures

pub returns-then-group-eq0 : goal.returns-then-group-eq0
returns-then-group-eq0 c = search run-bare

pub stands_in-requires : goal.stands_in-requires
stands_in-requires c = (c.bound_of-bound.ensures.1, up_fits _ _ _ _ _ _ c.frame_at-frame.ensures c.run_up.ensures, omega arith)

pub returns : goal.returns
returns c = search run_is
