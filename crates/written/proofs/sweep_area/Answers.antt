use native.Mathlib.Omega.{arith}
use Rattle.lists.proofs.Lists.{from_start, from_next, from_end}
use Rattle.written.proofs.Sweeping.{masked-told, area-near}
use Rattle.written.proofs.sweep_area.Goals as goal

pub overflow_sub-shape : goal.overflow_sub-shape
overflow_sub-shape c = omega arith

pub masks_of-masks-requires : goal.masks_of-masks-requires
masks_of-masks-requires c =
    (omega (arith, c.min-u.ensures), c.requires.0.history_long)

pub loop-line-init : goal.loop-line-init
loop-line-init c = from_start _ _ _ _

pub group_at-group-requires : goal.group_at-group-requires
group_at-group-requires c =
    area-near _ _ _ _ c.requires.0 c.requires.1 c.loop-line.invariant.long c.loop-line-test.true

pub put_group-requires : goal.put_group-requires
put_group-requires c =
    area-near _ _ _ _ c.requires.0 c.requires.1 c.loop-line.invariant.long c.loop-line-test.true

pub loop-line-preserved : goal.loop-line-preserved
loop-line-preserved c =
    from_next _ _ _ _ _ _ _ _ _ _ c.loop-line.invariant c.loop-line-test.true (omega arith) c.group_at-group.ensures
    (masked-told _ _ _ _ _ _ c.masks_of-masks.result c.first_index-s.ensures c.min-u.ensures c.masks_of-masks.ensures _) c.put_group.ensures

pub shape_of-groups : goal.shape_of-groups
shape_of-groups c = c.loop-line.invariant.long

pub returns : goal.returns
returns c = from_end _ _ _ _ _ _ c.loop-line.invariant c.loop-line-test.false
