-- `store::reset` meets its contract.
use Rattle.std.proofs.Common.{refl}
use Rattle.rules.proofs.Refusals.{err-is, number-some}
use Rattle.storage.proofs.Chains.{asked-measured}
use Rattle.storage.proofs.Starting.{reset-refused, zero-asks, clear-asks, reset-asks, reset-begins}
use Rattle.store.proofs.reset.Goals as goal

pub returns-in_err-asked_refusal : goal.returns-in_err-asked_refusal
returns-in_err-asked_refusal c = rw (err-is _ _ c.from_residual.ensures.1) (reset-refused _ _ _ _ _ (asked-measured _ c.measure-lengths.ensures c.in_err-asked_refusal.ensures) (number-some _))

pub zero-requires : goal.zero-requires
zero-requires c =
    zero-asks _ _ _ _ _ (asked-measured _ c.measure-lengths.ensures c.in_ok-asked_refusal.ensures) refl

pub reset-requires : goal.reset-requires
reset-requires c =
    reset-asks _ _ _ _ _ (asked-measured _ c.measure-lengths.ensures c.in_ok-asked_refusal.ensures) refl

pub clear-requires : goal.clear-requires
clear-requires c =
    clear-asks _ _ _ _ _ (asked-measured _ c.measure-lengths.ensures c.in_ok-asked_refusal.ensures) refl

pub returns : goal.returns
returns c =
    let told = asked-measured _ c.measure-lengths.ensures c.in_ok-asked_refusal.ensures in
    reset-begins _ _ _ _ _ told refl _ _ _ _ _ c.zero.ensures c.reset.ensures.none c.clear.ensures c.reset.ensures.«open» c.fresh.ensures
