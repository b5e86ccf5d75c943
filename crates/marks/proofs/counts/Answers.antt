-- `marks::counts` meets its contract.
use Rattle.std.proofs.Common.{refl}
use Rattle.rules.proofs.Refusals.{err-is, number-some}
use mathlib.Core.Path.{ap}
use Rattle.pages.specs.declared.Ring.{Ring}
use Rattle.storage.proofs.Admitting.{room-turn}
use Rattle.storage.proofs.Counting.{counts-refused, counts-told}
use Rattle.marks.proofs.counts.Goals as goal

pub returns-in_err-admit : goal.returns-in_err-admit
returns-in_err-admit c = λ _. rw (err-is _ _ c.from_residual.ensures.1) (counts-refused _ _ _ c.measure-lengths.ensures c.in_err-admit.ensures.0 (number-some _))

pub live-live-requires : goal.live-live-requires
live-live-requires c = room-turn _ _ (c.in_ok-admit.ensures.1 refl)

pub returns : goal.returns
returns c =
    λ _.
    counts-told _ _ _ c.measure-lengths.ensures c.in_ok-admit.ensures.0 refl _ _ c.live-live.ensures
    (ap (λ (r : Ring). r.used) c.ring-ring.ensures)
