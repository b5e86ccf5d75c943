-- `storage::admit_write_block` meets its contract.
use Rattle.storage.proofs.Chains.{list-short-after, list-passes-after}
use Rattle.storage.proofs.admit_write_block.Goals as goal

pub returns-then-room-items : goal.returns-then-room-items
returns-then-room-items c = rw c.and.ensures (list-short-after _ _ _ c.admit-earlier.ensures.0 _ _ c.if-room-items.true)

pub returns : goal.returns
returns c = list-passes-after _ _ _ c.admit-earlier.ensures.0 _ _ c.if-room-items.false
