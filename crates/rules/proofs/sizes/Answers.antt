-- `rules::sizes` meets its contract: the sizes are those of the definition.
use Rattle.rules.specs.Settings.{bytes, elements}
use Rattle.rules.specs.Sizing.{no_sizes, sizes_of}
use Rattle.rules.proofs.Settings.{sizing-given, sizing-refused}
use Rattle.rules.proofs.sizes.Goals as goal

pub returns-then-not-in_limits : goal.returns-then-not-in_limits
unfolding no_sizes
returns-then-not-in_limits c = search sizing-refused

pub returns : goal.returns
unfolding sizes_of bytes elements
returns c = search sizing-given
