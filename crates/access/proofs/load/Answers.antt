-- `access::load` meets its contract.
use mathlib.Core.Path.{sym}
use Rattle.access.proofs.load.Goals as goal

pub newest-version-requires : goal.newest-version-requires
newest-version-requires c = rw c.shape.ensures c.requires.0

pub place-requires : goal.place-requires
place-requires c = sym c.requires.1

pub returns : goal.returns
returns c =
    record { found = rw c.shape.ensures at c.newest-version.ensures; held = c.place.ensures }
