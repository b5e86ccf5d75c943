-- `store::line` meets its contract.
use Rattle.store.proofs.line.Goals as goal

pub returns : goal.returns
returns c = c.line.ensures _
