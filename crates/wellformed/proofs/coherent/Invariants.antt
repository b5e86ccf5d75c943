-- `wellformed::coherent` meets its contract.
use Rattle.cache.specs.Entries.{Sized}
use Rattle.written.specs.Bits.{written_at}
use Rattle.wellformed.proofs.Deciding.{AllBelow}
use Rattle.wellformed.proofs.Recent.{IfValid}
use Rattle.wellformed.proofs.coherent.Given as goal

abbrev pub invariant-loop-e : goal.invariant-loop-e
invariant-loop-e l =
    (Sized l.cache) × (AllBelow l.e (IfValid (written_at l.shape l.groups l.history) l.pages l.live l.archive l.pool l.table l.cache))
