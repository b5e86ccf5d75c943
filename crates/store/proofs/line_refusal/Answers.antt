-- `store::line_refusal` meets its contract.
use Rattle.store.proofs.line_refusal.Goals as goal

pub returns : goal.returns
returns c = c.line_refusal.ensures _
