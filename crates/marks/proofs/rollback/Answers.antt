-- `marks::rollback` meets its contract.
use Rattle.rules.proofs.Refusals.{err-is, number-some}
use mathlib.Core.Path.{refl}
use Rattle.storage.proofs.Admitting.{room-turn, room-circle, room-lent}
use Rattle.storage.proofs.Seeing.{seen-asks, seen_below, seen-lent, seen-rolled}
use Rattle.storage.proofs.Chains.{frames-measured}
use Rattle.storage.proofs.Rolling.{rollback-refused, rollback-drops}
use native.Mathlib.Omega.{arith}
use Rattle.marks.proofs.rollback.Goals as goal

pub returns-in_err-admit_frames : goal.returns-in_err-admit_frames
returns-in_err-admit_frames c = λ _ _ _. rw (err-is _ _ c.from_residual.ensures.1) (rollback-refused _ _ _ _ c.measure-lengths.ensures c.in_err-admit_frames.ensures.0 (number-some _))

pub live-requires : goal.live-requires
live-requires c = room-turn _ _ (c.in_ok-admit_frames.ensures.1 refl).room

pub overflow_sub-kept : goal.overflow_sub-kept
overflow_sub-kept c = omega (arith, c.in_ok-admit_frames.ensures.1 refl, c.live.ensures)

pub pages_below-used-requires : goal.pages_below-used-requires
pages_below-used-requires c =
    seen-asks _ _ (frames-measured c.measure-lengths.ensures (c.in_ok-admit_frames.ensures.1 refl)).room _ _ _ c.ring-ring.ensures

pub overflow_cast-kept : goal.overflow_cast-kept
overflow_cast-kept c =
    omega (arith, c.in_ok-admit_frames.ensures.1 refl, c.live.ensures)

pub rollback-tag-requires : goal.rollback-tag-requires
rollback-tag-requires c =
    let g = frames-measured c.measure-lengths.ensures (c.in_ok-admit_frames.ensures.1 refl) in
    (seen-lent _ _ _ _ _ _ _ c.ring-ring.ensures _ _ (room-lent _ _ _ _ _ _ _ g.room), omega arith)

pub forget-requires : goal.forget-requires
forget-requires c = room-circle _ _ (c.in_ok-admit_frames.ensures.1 refl).room

pub overflow_add-cmf : goal.overflow_add-cmf
overflow_add-cmf c = omega (arith, c.in_ok-admit_frames.ensures.1 refl)

pub overflow_sub-cmf : goal.overflow_sub-cmf
overflow_sub-cmf c = omega (arith, c.in_ok-admit_frames.ensures.1 refl)

pub nonzero_rem-cmf : goal.nonzero_rem-cmf
nonzero_rem-cmf c = omega (arith, c.in_ok-admit_frames.ensures.1 refl)

pub returns : goal.returns
returns c =
    let is = c.ring-ring.ensures in
    λ _ _ _.
    rollback-drops _ _ _ _ c.measure-lengths.ensures c.in_ok-admit_frames.ensures.0 refl _ c.live.ensures _ _ _ _ (seen-rolled _ _ _ _ _ _ _ is _ _ _ _ _ _ _ c.rollback-tag.ensures)
    (seen_below _ _ _ _ _ _ _ is _ _ _ c.pages_below-used.ensures) _ _ refl c.forget.ensures
