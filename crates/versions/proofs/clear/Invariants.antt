-- `versions::clear` meets its contract.
use Rattle.std.proofs.Common.{◌≡◌}
use Rattle.versions.specs.Steps.{cleared_pages}
use Rattle.versions.proofs.clear.Given as goal

abbrev pub invariant-loop-i : goal.invariant-loop-i
invariant-loop-i l = l.groups ≡ cleared_pages l.ring.shape.lines l.ring.pages l.ring.first l.owners l.i l.initial.groups
