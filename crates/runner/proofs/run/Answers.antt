-- The memory that `runner::run` lends has the lengths of the transcript's runner.
use borrow.Author.Rules.{rules}
use mathlib.Core.Path.{refl}
use Rattle.rules.specs.Settings.{elements}
use Rattle.session.specs.Transcript.{runner_lent}
use Rattle.runner.proofs.run.Goals as goal

pub read_all-requires : goal.read_all-requires
unfolding runner_lent elements
read_all-requires g c = (search rules, refl)
