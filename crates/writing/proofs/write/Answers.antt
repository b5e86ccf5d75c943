-- `writing::write` meets its contract.
use Rattle.std.proofs.Common.{refl}
use Rattle.rules.proofs.Refusals.{err-is, number-some}
use Rattle.storage.proofs.Chains.{measured-none}
use Rattle.storage.proofs.Storing.{write-turned}
use Rattle.writing.proofs.write.Goals as goal

pub returns-in_err-admit : goal.returns-in_err-admit
returns-in_err-admit c = rw (err-is _ _ c.from_residual.ensures.1) (write-turned _ _ _ _ _ _ c.measure-lengths.ensures c.in_err-admit.ensures.0 (number-some _))

pub write_admitted-requires : goal.write_admitted-requires
write_admitted-requires c =
    measured-none _ _ c.measure-lengths.ensures c.in_ok-admit.ensures.0 refl
