use Rattle.lists.proofs.Lists.{rewrite-next}
use Rattle.cache.proofs.forget.Goals as goal

pub loop-entry-preserved : goal.loop-entry-preserved
loop-entry-preserved c = rewrite-next _ _ _ _ _ c.loop-entry.invariant c.flag_after.ensures
