-- The table of walks over the rollback history, computed. Assumes nothing.
use mathlib.Core.Path.{◌≡◌, refl}
use mathlib.Core.List.{map}
use Rattle.lists.specs.Lists.{rewrite}
use Rattle.written.specs.Steps.{settled, compared, lower_bound, lowered}
use Rattle.written.specs.Walks.{walks, worked_out}

pub walks-computed : map worked_out walks ≡ walks
unfolding rewrite settled compared lower_bound lowered walks worked_out
walks-computed = refl
