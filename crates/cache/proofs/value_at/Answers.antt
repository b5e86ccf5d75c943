-- `cache::value_at` meets its contract.
use Rattle.std.proofs.Common.{arith}
use Rattle.cache.proofs.Returns.{entry_value}
use Rattle.cache.proofs.value_at.Goals as goal

pub returns : goal.returns
returns c =
    entry_value _ _ _ _ c.requires (omega arith) _ c.read_value.ensures
