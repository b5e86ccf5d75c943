use native.Mathlib.Omega.{arith}
use Rattle.written.specs.Steps.{masked_of, swept}
use Rattle.written.proofs.Sweeping.{area-more, areas-end, areas-start}
use Rattle.written.proofs.sweep.Goals as goal

pub loop-area-init : goal.loop-area-init
loop-area-init c = areas-start _ _ _

pub loop-area-preserved : goal.loop-area-preserved
loop-area-preserved c =
    area-more _ _ (λ a g. masked_of c.args.shape.frames c.args.shape.omf a c.args.history.now g) _ _ _ c.loop-area.invariant c.sweep_area.ensures

pub returns : goal.returns
unfolding swept
returns c = areas-end _ _ _ c.loop-area.invariant (omega arith) (omega arith)
