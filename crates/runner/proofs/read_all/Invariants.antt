-- `runner::read_all` meets its contract.
use Rattle.store.specs.Memory.{lent_in, SamePieces}
use Rattle.runner.proofs.Reading.{Underway}
use Rattle.runner.proofs.read_all.Given as goal

abbrev pub invariant-loop : goal.invariant-loop
invariant-loop g l =
    record {
      pieces : SamePieces l.initial.memory l.memory;
      underway : Underway l.initial.runner (lent_in l.initial.memory) l.initial.out l.runner (lent_in l.memory) l.out;
    }
