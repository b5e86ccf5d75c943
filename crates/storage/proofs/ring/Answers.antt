-- `storage::ring` meets its contract.
use Rattle.storage.proofs.Rings.{ring-told}
use Rattle.storage.proofs.ring.Goals as goal

pub returns : goal.returns
returns c = ring-told c.args.registers _ _ _ c.shape.ensures c.start.ensures c.min.ensures
