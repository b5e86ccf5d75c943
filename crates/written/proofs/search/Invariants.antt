-- `written::search` meets its contract.
use Prim.Native.Nat.{◌<◌}
use mathlib.Core.Path.{◌≡◌}
use Rattle.written.specs.Bits.{written_at, newest_from}
use Rattle.written.proofs.search.Given as goal

abbrev pub invariant-loop-found : goal.invariant-loop-found
invariant-loop-found l =
    (l.i < l.shape.frames) × (newest_from (written_at l.shape l.groups l.history) l.line l.start ≡ newest_from (written_at l.shape l.groups l.history) l.line l.i)

abbrev pub decreases-loop-found : goal.decreases-loop-found
decreases-loop-found l = l.i
