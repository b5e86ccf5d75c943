-- `cache::collect` meets its contract.
use Rattle.std.proofs.Common.{◌≡◌}
use Rattle.lists.specs.Lists.{rewrite}
use Rattle.cache.specs.Steps.{frame_after}
use Rattle.cache.proofs.collect.Given as goal

abbrev pub invariant-loop-frame : goal.invariant-loop-frame
invariant-loop-frame l = l.origins ≡ rewrite l.frame-index (λ e frame. frame_after l.frames l.omf l.k frame) l.initial.origins
