use native.Mathlib.Omega.{arith}
use Rattle.written.proofs.Blanks.{set-near}
use Rattle.lists.proofs.Lists.{from_start, from_next, from_end}
use Rattle.written.proofs.clear_block.Goals as goal

pub loop-n-init : goal.loop-n-init
loop-n-init c = from_start _ _ _ _

pub overflow_mul-line : goal.overflow_mul-line
overflow_mul-line c = omega (arith, c.requires.near.line_few)

pub overflow_add-line : goal.overflow_add-line
overflow_add-line c = omega (arith, c.requires.near.line_few, c.loop-n-test.true)

pub group_at-group-requires : goal.group_at-group-requires
group_at-group-requires c =
    set-near _ _ _ _ _ _ c.requires c.loop-n.invariant.long (omega (arith, c.loop-n-test.true))

pub put_group-requires : goal.put_group-requires
put_group-requires c =
    set-near _ _ _ _ _ _ c.requires c.loop-n.invariant.long (omega (arith, c.loop-n-test.true))

pub loop-n-preserved : goal.loop-n-preserved
loop-n-preserved c =
    from_next _ _ _ _ _ _ _ _ _ _ c.loop-n.invariant (omega (arith, c.loop-n-test.true)) (omega arith) c.group_at-group.ensures c.unset.ensures c.put_group.ensures

pub shape_of-groups : goal.shape_of-groups
shape_of-groups c = c.loop-n.invariant.long

pub returns : goal.returns
returns c = from_end _ _ _ _ _ _ c.loop-n.invariant (omega (arith, c.loop-n-test.false))
