-- `store::rollback` meets its contract.
use Rattle.rules.proofs.Refusals.{err-is}
use Rattle.store.proofs.rollback.Goals as goal

pub returns-in_err-state : goal.returns-in_err-state
returns-in_err-state c = rw (err-is _ _ c.from_residual.ensures.1) (c.in_err-state.ensures _ _ _)
