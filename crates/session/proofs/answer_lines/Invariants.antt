-- `session::answer_lines` meets its contract.
use Prim.Native.Nat.{◌-◌}
use lib.ListN.{length}
use Rattle.store.specs.Memory.{lent_in, SamePieces}
use Rattle.session.specs.Between.{desk_of, desk_in, Lines}
use Rattle.session.proofs.answer_lines.Given as goal

abbrev pub invariant-loop-filled : goal.invariant-loop-filled
invariant-loop-filled l =
    record {
      pieces : SamePieces l.initial.pieces l.pieces;
      lines : Lines (desk_in l.before (lent_in l.initial.pieces)) l.chunk l.from l.initial.out l.at (desk_of l.state l.started l.tally (lent_in l.pieces)) l.out l.used l.filled;
    }

abbrev pub decreases-loop-filled : goal.decreases-loop-filled
decreases-loop-filled l = length l.chunk - l.used
