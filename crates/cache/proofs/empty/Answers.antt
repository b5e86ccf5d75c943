-- `cache::empty` meets its contract.
use mathlib.Core.Path.{refl}
use Rattle.cache.proofs.Figure.{empty-told}
use Rattle.cache.specs.Steps.{emptied}
use Rattle.cache.proofs.empty.Goals as goal

pub returns : goal.returns
unfolding emptied
returns c = empty-told _ refl
