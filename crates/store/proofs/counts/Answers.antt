-- `store::counts` meets its contract.
use Rattle.store.proofs.counts.Goals as goal

pub returns : goal.returns
returns c = c.counts.ensures _
