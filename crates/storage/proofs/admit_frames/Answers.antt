-- `storage::admit_frames` meets its contract.
use Rattle.std.proofs.Common.{◌∙◌, refl}
use Rattle.rules.proofs.Refusals.{number-some, handed-on}
use Rattle.storage.proofs.Admitting.{room-turn}
use Rattle.storage.proofs.Chains.{frames-told, admitted-turned, frames-none, frames-passes, frames-past}
use Rattle.storage.proofs.admit_frames.Goals as goal

pub returns-in_err-admit : goal.returns-in_err-admit
returns-in_err-admit c =
    frames-told _ _ _ _ (handed-on _ _ c.from_residual.ensures.1 ∙ admitted-turned _ _ _ c.in_err-admit.ensures.0 _ (number-some _))

pub returns-then-k-eq0 : goal.returns-then-k-eq0
returns-then-k-eq0 c = frames-told _ _ _ _ (frames-none _ _ _ c.in_ok-admit.ensures.0 refl _ _ c.if-k-eq0.true)

pub live-requires : goal.live-requires
live-requires c = room-turn _ _ (c.in_ok-admit.ensures.1 refl)

pub returns-then-k-live : goal.returns-then-k-live
returns-then-k-live c =
    frames-told _ _ _ _ (frames-passes _ _ _ c.in_ok-admit.ensures.0 refl _ _ _ c.live.ensures c.if-k-eq0.false c.if-k-live.true)

pub returns : goal.returns
returns c =
    frames-told _ _ _ _ (frames-past _ _ _ c.in_ok-admit.ensures.0 refl _ _ _ c.live.ensures c.if-k-live.false c.if-k-eq0.false)
