use mathlib.Core.Path.{ap}
use Rattle.std.proofs.Common.{refl}
use Rattle.rules.proofs.Refusals.{err-is, number-some}
use native.Mathlib.Omega.{arith}
use Rattle.rules.specs.Settings.{Pieces}
use Rattle.write_blocks.proofs.Doing.{doing-start, doing-next, write-block-refused, write-block-done}
use Rattle.write_blocks.proofs.write_block.Goals as goal

pub returns-in_err-admit_write_block : goal.returns-in_err-admit_write_block
returns-in_err-admit_write_block c = rw (err-is _ _ c.from_residual.ensures.1) (write-block-refused _ _ _ _ _ c.measure-lengths.ensures c.in_err-admit_write_block.ensures (number-some _))

pub loop-i-init : goal.loop-i-init
loop-i-init c =
    (omega (arith, c.well_formed), doing-start _ _ _ _ _ c.measure-lengths.ensures c.in_ok-admit_write_block.ensures refl)

pub item_at-item-requires : goal.item_at-item-requires
item_at-item-requires c = c.loop-i-test.true

pub offset_bounds-answers-i : goal.offset_bounds-answers-i
offset_bounds-answers-i c = omega (arith, c.loop-i.invariant.0, c.loop-i.invariant.1.fits, c.loop-i.invariant.1.long, c.loop-i-test.true)

pub bounds-answers-i : goal.bounds-answers-i
bounds-answers-i c = omega (arith, c.loop-i.invariant.0, c.loop-i.invariant.1.fits, c.loop-i.invariant.1.long, c.loop-i-test.true)

pub loop-i-preserved : goal.loop-i-preserved
loop-i-preserved c = (
  c.loop-i.invariant.0,
  rw c.unwrap_or-used.ensures (rw c.refusal_number.ensures (doing-next _ _ _ _ _ _ _ _ _ c.loop-i.invariant.1 c.loop-i-test.true c.item_at-item.ensures c.write_admitted-written.ensures)),
)

pub shape_of-pool : goal.shape_of-pool
shape_of-pool c = ap (λ (n : Pieces). n.pool) c.loop-i.invariant.1.lengths

pub shape_of-groups : goal.shape_of-groups
shape_of-groups c = ap (λ (n : Pieces). n.groups) c.loop-i.invariant.1.lengths

pub shape_of-table : goal.shape_of-table
shape_of-table c = ap (λ (n : Pieces). n.table) c.loop-i.invariant.1.lengths

pub shape_of-owners : goal.shape_of-owners
shape_of-owners c = ap (λ (n : Pieces). n.owners) c.loop-i.invariant.1.lengths

pub shape_of-answers : goal.shape_of-answers
shape_of-answers c = c.loop-i.invariant.1.long

pub returns : goal.returns
returns c = write-block-done _ _ _ _ _ _ c.loop-i.invariant.1 c.loop-i-test.false

pub write_admitted-written-requires : goal.write_admitted-written-requires
write_admitted-written-requires c = c.loop-i.invariant.1.admits
