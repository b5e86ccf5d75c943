-- `written::lower_bound` meets its contract.
use Rattle.written.proofs.Sweeping.{lower-open, lower-else}
use mathlib.Core.Path.{sym, ◌∙◌}
use Rattle.written.proofs.lower_bound.Goals as goal

pub returns-then-bound-eq65535 : goal.returns-then-bound-eq65535
returns-then-bound-eq65535 c = search lower-open

pub returns : goal.returns
returns c = c.saturating_sub.ensures ∙ sym (lower-else _ _ c.if-bound-eq65535.false)
