-- `versions::fold_page` meets its contract.
use Rattle.std.proofs.Common.{◌≡◌}
use Rattle.written.specs.Bits.{written_at}
use Rattle.versions.specs.Steps.{folded_lines, flagged_lines}
use Rattle.versions.proofs.fold_page.Given as goal

abbrev pub invariant-loop-n : goal.invariant-loop-n
invariant-loop-n l =
    (l.archive ≡ folded_lines (written_at l.ring.shape l.groups l.history) l.pool l.page l.index l.block l.n l.initial.archive)
    × (l.owners ≡ flagged_lines (written_at l.ring.shape l.groups l.history) l.ring.pages l.index l.block l.n l.initial.owners)
