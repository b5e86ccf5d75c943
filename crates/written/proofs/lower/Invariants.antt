-- `written::lower` meets its contract.
use Rattle.written.specs.Steps.{lower_bound}
use Rattle.lists.proofs.Lists.{Rewritten}
use Rattle.written.proofs.lower.Given as goal

abbrev pub invariant-loop-bound : goal.invariant-loop-bound
invariant-loop-bound l = Rewritten l.bound-index (λ _ e. lower_bound l.k e) l.initial.bound-items l.bound-items
