-- `pages::flags::clear` meets its contract.
use native.Mathlib.Omega.{arith}
use Rattle.lists.proofs.Lists.{filled-part}
use Rattle.pages.specs.Flags.{unflagged}
use Rattle.pages.proofs.flags.clear.Goals as goal

pub returns : goal.returns
unfolding unflagged
returns c = filled-part 0 _ _ _ _ _ (omega arith) c.requires.2 (c.fill.ensures.after (λ y e. e))
