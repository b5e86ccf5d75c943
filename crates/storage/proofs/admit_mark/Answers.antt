-- `storage::admit_mark` meets its contract.
use Rattle.std.proofs.Common.{◌∙◌, refl, arith}
use Rattle.frames.proofs.Circle.{none_left, some_left}
use Rattle.rules.proofs.Refusals.{number-some, handed-on}
use Rattle.storage.proofs.Admitting.{admitted-told, room_next}
use Rattle.storage.proofs.Chains.{admitted-turned, mark-passes, mark-past}
use Rattle.storage.proofs.admit_mark.Goals as goal

pub returns-in_err-admit : goal.returns-in_err-admit
returns-in_err-admit c =
    admitted-told _ _ _ _ (handed-on _ _ c.from_residual.ensures.1 ∙ admitted-turned _ _ _ c.in_err-admit.ensures.0 _ (number-some _))

pub next-requires : goal.next-requires
next-requires c = room_next _ _ (c.in_ok-admit.ensures.1 refl)

pub returns-then-next-registers : goal.returns-then-next-registers
returns-then-next-registers c =
    let r = c.in_ok-admit.ensures.1 refl in
    admitted-told _ _ _ _ (mark-past _ _ _ c.in_ok-admit.ensures.0 refl _ (none_left _ _ _ r.omf_below r.cmf_below _ c.next.ensures (omega (arith, c.if-next-registers.true))))

pub returns : goal.returns
returns c =
    let r = c.in_ok-admit.ensures.1 refl in
    admitted-told _ _ _ _ (mark-passes _ _ _ c.in_ok-admit.ensures.0 refl _ (some_left _ _ _ r.omf_below r.cmf_below _ c.next.ensures c.if-next-registers.false))
