-- `access::line_refusal` meets its contract.
use Rattle.storage.proofs.Looking.{companion}
use Rattle.access.proofs.line_refusal.Goals as goal

pub returns : goal.returns
returns c = λ _. companion _ _ _ _ c.measure-lengths.ensures c.admit_line.ensures.0
