-- `marks::advance` meets its contract.
use Rattle.rules.proofs.Refusals.{err-is, number-some}
use mathlib.Core.Path.{ap, refl}
use Rattle.pages.specs.declared.Ring.{Ring}
use Rattle.versions.proofs.Flagged.{fold-kept}
use Rattle.storage.proofs.Admitting.{room-circle}
use Rattle.storage.proofs.Seeing.{seen-asks, seen-fold-asks, seen-gone-asks, seen_first, seen-folded, seen-cleared, seen-noted, seen-advanced}
use Rattle.storage.proofs.Chains.{frames-measured}
use Rattle.storage.proofs.Collecting.{advance-refused, advance-collects}
use native.Mathlib.Omega.{arith}
use Rattle.marks.proofs.advance.Goals as goal

pub returns-in_err-admit_frames : goal.returns-in_err-admit_frames
returns-in_err-admit_frames c = λ _ _ _ _. rw (err-is _ _ c.from_residual.ensures.1) (advance-refused _ _ _ _ c.measure-lengths.ensures c.in_err-admit_frames.ensures.0 (number-some _))

pub fold-gone-requires : goal.fold-gone-requires
fold-gone-requires c =
    let g = frames-measured c.measure-lengths.ensures (c.in_ok-admit_frames.ensures.1 refl) in
    (seen-fold-asks _ _ _ _ _ _ _ g.room _ _ _ c.ring-ring.ensures, omega (arith, ap (λ (y : Ring). y.shape.frames) c.ring-ring.ensures, g))

pub clear-requires : goal.clear-requires
clear-requires c =
    let g = frames-measured c.measure-lengths.ensures (c.in_ok-admit_frames.ensures.1 refl) in
    let kept = fold-kept _ _ _ _ _ _ _ _ _ (seen-fold-asks _ _ _ _ _ _ _ g.room _ _ _ c.ring-ring.ensures) c.fold-gone.ensures.2 in
    seen-gone-asks _ _ _ _ _ _ _ g.room _ _ _ c.ring-ring.ensures _ kept _ _ (omega (arith, g)) c.fold-gone.ensures.0

pub overflow_cast-k : goal.overflow_cast-k
overflow_cast-k c = omega (arith, c.in_ok-admit_frames.ensures.1 refl)

pub lower-requires : goal.lower-requires
lower-requires c =
    (frames-measured c.measure-lengths.ensures (c.in_ok-admit_frames.ensures.1 refl)).room.history_long

pub collect-requires : goal.collect-requires
collect-requires c = room-circle _ _ (c.in_ok-admit_frames.ensures.1 refl).room

pub overflow_add-omf : goal.overflow_add-omf
overflow_add-omf c = omega (arith, c.in_ok-admit_frames.ensures.1 refl)

pub nonzero_rem-omf : goal.nonzero_rem-omf
nonzero_rem-omf c = omega (arith, c.in_ok-admit_frames.ensures.1 refl)

pub nth_page-requires : goal.nth_page-requires
nth_page-requires c =
    let g = frames-measured c.measure-lengths.ensures (c.in_ok-admit_frames.ensures.1 refl) in
    let s = seen-asks _ _ g.room _ _ _ c.ring-ring.ensures in
    (s.first_below, omega (arith, s, c.fold-gone.ensures.0.few), s.pages_few)

pub overflow_sub-registers : goal.overflow_sub-registers
overflow_sub-registers c = omega (arith, c.fold-gone.ensures.0.few)

pub returns : goal.returns
returns c =
    let is = c.ring-ring.ensures in
    let g = frames-measured c.measure-lengths.ensures (c.in_ok-admit_frames.ensures.1 refl) in
    let ask = seen-fold-asks _ _ _ _ _ _ _ g.room _ _ _ is in
    let kept = fold-kept _ _ _ _ _ _ _ _ _ ask c.fold-gone.ensures.2 in
    λ _ _ _ _.
    advance-collects _ _ _ _ c.measure-lengths.ensures c.in_ok-admit_frames.ensures.0 _ (seen_first _ _ _ _ _ _ _ is _ _ _ c.fold-gone.ensures.0) refl _ _ _ _
    (seen-folded _ _ _ _ _ _ _ is _ _ _ _ _ _ _ c.fold-gone.ensures.1) (seen-cleared _ _ _ _ _ _ _ is _ _ _ _ _ ask.ring.first_below kept c.clear.ensures)
    (seen-noted _ _ _ _ _ _ _ is _ _ _ _ _ c.fold-gone.ensures.2) c.lower.ensures _ _
    (seen-advanced _ _ _ _ _ _ _ is _ _ _ _ _ c.nth_page.ensures) c.collect.ensures
