-- `marks::mark` meets its contract.
use Rattle.std.proofs.Common.{refl}
use Rattle.rules.proofs.Refusals.{err-is, number-some}
use Rattle.storage.proofs.Admitting.{room_next}
use Rattle.storage.proofs.Marking.{mark-refused, mark-opens}
use Rattle.marks.proofs.mark.Goals as goal

pub returns-in_err-admit_mark : goal.returns-in_err-admit_mark
returns-in_err-admit_mark c = λ _. rw (err-is _ _ c.from_residual.ensures.1) (mark-refused _ _ _ c.measure-lengths.ensures c.in_err-admit_mark.ensures.0 (number-some _))

pub next-requires : goal.next-requires
next-requires c = room_next _ _ (c.in_ok-admit_mark.ensures.1 refl)

pub returns : goal.returns
returns c =
    λ _. mark-opens _ _ _ c.measure-lengths.ensures c.in_ok-admit_mark.ensures.0 refl _ c.next.ensures
