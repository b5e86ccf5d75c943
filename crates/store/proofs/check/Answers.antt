-- `store::check` meets its contract.
use Rattle.std.proofs.Common.{refl}
use Rattle.rules.proofs.Refusals.{err-is, number-some}
use Rattle.storage.proofs.Chains.{measured-none}
use Rattle.storage.proofs.Checking.{check-refused, check-told}
use Rattle.store.proofs.check.Goals as goal

pub returns-in_err-admit : goal.returns-in_err-admit
returns-in_err-admit c = rw (err-is _ _ c.from_residual.ensures.1) (check-refused _ _ _ c.measure-lengths.ensures c.in_err-admit.ensures.0 (number-some _))

pub is_well-yes-requires : goal.is_well-yes-requires
is_well-yes-requires c = measured-none _ _ c.measure-lengths.ensures c.in_ok-admit.ensures.0 refl

pub returns : goal.returns
returns c =
    check-told _ _ _ c.measure-lengths.ensures c.in_ok-admit.ensures.0 refl _ c.is_well-yes.ensures
