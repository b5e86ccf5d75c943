-- `access::line` meets its contract.
use Rattle.std.proofs.Common.{refl}
use Rattle.rules.proofs.Refusals.{number-some}
use Rattle.storage.proofs.Chains.{measured-none}
use Rattle.storage.proofs.Using.{line_refused}
use Rattle.access.proofs.line.Goals as goal

pub returns-in-Err : goal.returns-in-Err
returns-in-Err c = λ _. line_refused _ _ _ _ c.measure-lengths.ensures c.in-Err.ensures.0 (number-some _)

pub line_admitted-requires : goal.line_admitted-requires
line_admitted-requires c = measured-none _ _ c.measure-lengths.ensures c.in-Ok.ensures.0 refl
