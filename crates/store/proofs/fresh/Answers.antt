-- `store::fresh` meets its contract.
use Rattle.storage.proofs.Starting.{fresh-told}
use Rattle.store.proofs.fresh.Goals as goal

pub returns : goal.returns
returns c = fresh-told _ _ _ _ c.empty.ensures.0
