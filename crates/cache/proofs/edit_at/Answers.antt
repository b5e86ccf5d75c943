-- `cache::edit_at` meets its contract.
use Rattle.std.proofs.Common.{arith}
use Rattle.cache.proofs.Returns.{entry-edit}
use Rattle.cache.proofs.edit_at.Goals as goal

pub returns : goal.returns
returns c =
    entry-edit _ _ _ _ c.requires (omega arith) _ _ c.write_value.ensures
