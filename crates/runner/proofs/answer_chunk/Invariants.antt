-- `runner::answer_chunk` meets its contract.
use lib.ListN.{length}
use Rattle.store.specs.Memory.{lent_in, SamePieces}
use Rattle.runner.proofs.Going.{Going}
use Rattle.runner.proofs.answer_chunk.Given as goal

abbrev pub invariant-loop-rest : goal.invariant-loop-rest
invariant-loop-rest g l =
    record {
      pieces : SamePieces l.initial.memory l.memory;
      going : Going l.fn.before (lent_in l.initial.memory) l.chunk l.initial.out l.runner (lent_in l.memory) l.out l.rest;
    }

abbrev pub decreases-loop-rest : goal.decreases-loop-rest
decreases-loop-rest g l = length l.rest
