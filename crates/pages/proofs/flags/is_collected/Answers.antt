-- `pages::flags::is_collected` meets its contract.
use mathlib.Core.Path.{refl}
use Rattle.pages.specs.Flags.{collected_at}
use Rattle.pages.proofs.flags.is_collected.Goals as goal

pub returns : goal.returns
unfolding collected_at
returns c = refl
