-- `cache::forget` meets its contract.
use Rattle.std.proofs.Common.{◌≡◌, get_or}
use Rattle.lists.specs.Lists.{rewrite}
use Rattle.cache.specs.Steps.{flag_after}
use Rattle.cache.proofs.forget.Given as goal

abbrev pub invariant-loop-entry : goal.invariant-loop-entry
invariant-loop-entry l = l.valid ≡ rewrite l.entry (λ e flag. flag_after l.frames l.omf l.kept (get_or l.origins e 0) flag) l.initial.valid
