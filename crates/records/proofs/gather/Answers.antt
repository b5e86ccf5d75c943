use mathlib.Core.Path.{sym}
use lib.Seq.{length-take-le}
use native.Mathlib.Omega.{arith}
use Rattle.text.proofs.Fields.{up-to-length}
use Rattle.records.proofs.Gathering.{gathering-next, gathering-none, gathering-over, gathering-end}
use Rattle.records.proofs.gather.Goals as goal

pub slice_bounds-read_number-end : goal.slice_bounds-read_number-end
slice_bounds-read_number-end c = sym (length-take-le _ _ (omega (arith, c.part_end-end.ensures, up-to-length 9 c.in-Some.fields.now)))

pub returns-in_err-n : goal.returns-in_err-n
returns-in_err-n c =
    rw c.from_residual.ensures
    (gathering-none c.loop-fields.invariant _ c.in-Some.fields.now c.part_end-end.result _ c.in-Some.ensures.cases.0 c.part_end-end.ensures c.read_number.ensures c.in_err-n.was)

pub returns-then-count-ge3 : goal.returns-then-count-ge3
returns-then-count-ge3 c =
    gathering-over c.loop-fields.invariant _ c.in-Some.fields.now c.part_end-end.result _ c.in-Some.ensures.cases.0 c.part_end-end.ensures c.read_number.ensures _ c.in_ok-n.was c.if-count-ge3.true

pub slice_bounds-rest-count : goal.slice_bounds-rest-count
slice_bounds-rest-count c = omega (arith, c.part_end-end.ensures, up-to-length 9 c.in-Some.fields.now)

pub slice_bounds-rest-start : goal.slice_bounds-rest-start
slice_bounds-rest-start c = omega (arith, c.part_end-end.ensures, up-to-length 9 c.in-Some.fields.now)

pub loop-fields-preserved : goal.loop-fields-preserved
loop-fields-preserved c =
    gathering-next c.loop-fields.invariant _ c.in-Some.fields.now c.part_end-end.result _ c.in-Some.ensures.cases.0 c.part_end-end.ensures c.read_number.ensures _ c.in_ok-n.was
    c.if-count-ge3.false

pub returns : goal.returns
returns c = gathering-end c.loop-fields.invariant c.in_default.ensures.cases
