-- `versions::fold` meets its contract.
use Rattle.written.specs.Bits.{written_at}
use Rattle.versions.proofs.Folding.{Pages, NotedPages}
use Rattle.versions.proofs.fold.Given as goal

abbrev pub invariant-loop-i : goal.invariant-loop-i
invariant-loop-i l =
    Pages (written_at l.ring.shape l.groups l.history) l.ring.pages l.ring.first l.ring.used l.pool l.initial.owners l.initial.archive l.k l.i l.archive
    × NotedPages (written_at l.ring.shape l.groups l.history) l.ring.pages l.ring.first l.initial.owners l.i l.owners
