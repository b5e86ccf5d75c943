-- `wellformed::tags_known` meets its contract.
use lib.ListN.{get_or}
use Rattle.wellformed.proofs.Deciding.{AllBelow}
use Rattle.wellformed.proofs.Groups.{Known}
use Rattle.wellformed.proofs.tags_known.Given as goal

abbrev pub invariant-loop-group : goal.invariant-loop-group
invariant-loop-group l = AllBelow l.group-index (λ k. Known l.tag (get_or l.groups k 0))
