-- `wellformed::is_ordered` meets its contract.
use Rattle.std.proofs.Common.{arith}
use Rattle.wellformed.proofs.Groups.{sorted-ordered}
use Rattle.wellformed.proofs.is_ordered.Goals as goal

pub returns : goal.returns
returns c = sorted-ordered _ _ _ (omega arith) c.is_sorted.ensures.by_index
