-- `written::reset` meets its contract.
use Rattle.written.specs.Steps.{blanked}
use Rattle.lists.proofs.Lists.{filled-front}
use Rattle.written.proofs.reset.Goals as goal

pub returns-clause-none : goal.returns-clause-none
unfolding blanked
returns-clause-none c = filled-front 0 _ _ _ c.requires.groups_enough (c.fill.ensures.after (λ y e. e))
