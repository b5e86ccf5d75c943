use native.Mathlib.Omega.{arith}
use Rattle.written.specs.Steps.{lowered}
use Rattle.lists.proofs.Lists.{rewrite-start, rewrite-more, loop-front}
use Rattle.written.proofs.lower.Goals as goal

pub loop-bound-init : goal.loop-bound-init
loop-bound-init c = rewrite-start _ _

pub loop-bound-preserved : goal.loop-bound-preserved
loop-bound-preserved c = rewrite-more _ c.loop-bound.invariant c.lower_bound.ensures

pub returns : goal.returns
unfolding lowered
returns c = loop-front 256 _ c.requires c.loop-bound.invariant (omega arith) c.loop-bound-test.false
