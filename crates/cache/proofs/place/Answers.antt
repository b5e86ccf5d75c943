-- `cache::place` meets its contract.
use Rattle.std.proofs.Common.{refl}
use Rattle.cache.proofs.Returns.{placed-done}
use Rattle.cache.proofs.place.Goals as goal

pub returns : goal.returns
returns c = placed-done _ _ _ _ _ _ _ _ _ _ _ c.requires c.way_of-way.ensures refl refl refl c.write_line.ensures refl
