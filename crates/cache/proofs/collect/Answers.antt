use Rattle.lists.proofs.Lists.{rewrite-next}
use Rattle.cache.proofs.collect.Goals as goal

pub loop-frame-preserved : goal.loop-frame-preserved
loop-frame-preserved c = rewrite-next _ _ _ _ _ c.loop-frame.invariant c.frame_after.ensures
