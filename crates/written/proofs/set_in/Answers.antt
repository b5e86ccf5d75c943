use mathlib.Core.Path.{refl}
use native.Mathlib.Omega.{arith}
use Rattle.written.proofs.Blanks.{added-start, set-near, digits_more, set-end}
use Rattle.written.proofs.set_in.Goals as goal

pub loop-n-init : goal.loop-n-init
loop-n-init c = added-start _ _ _ _

pub overflow_mul-block : goal.overflow_mul-block
overflow_mul-block c = omega (arith, c.requires.near.line_few)

pub overflow_add-block : goal.overflow_add-block
overflow_add-block c = omega (arith, c.requires.near.line_few, c.loop-n-test.true)

pub group_at-requires : goal.group_at-requires
group_at-requires c = set-near _ _ _ _ _ _ c.requires refl (omega (arith, c.loop-n-test.true))

pub loop-n-preserved : goal.loop-n-preserved
loop-n-preserved c =
    digits_more _ _ _ _ _ _ _ _ c.loop-n.invariant (omega (arith, c.loop-n-test.true)) c.power_of_two-here.ensures c.group_at.ensures

pub returns : goal.returns
returns c = set-end _ _ _ _ _ _ c.loop-n.invariant (omega (arith, c.loop-n-test.false))
