-- `pages::flags::set_collected` meets its contract.
use mathlib.Core.Path.{refl}
use Rattle.pages.specs.Flags.{flagged}
use Rattle.pages.proofs.flags.set_collected.Goals as goal

pub returns : goal.returns
unfolding flagged
returns c = refl
