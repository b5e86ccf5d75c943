-- `wellformed::is_collected_or_zero` meets its contract.
use Rattle.std.proofs.Common.{refl}
use Rattle.std.proofs.lemmas.Bool.Decides.{Decides-eqb}
use Rattle.std.proofs.lemmas.Slice.Eq.{slice_eq-Decides}
use Rattle.rules.specs.Line.{zeros}
use Rattle.wellformed.proofs.Archives.{zero-passes}
use Rattle.wellformed.proofs.Deciding.{decided}
use Rattle.wellformed.proofs.is_collected_or_zero.Goals as goal

pub returns-else-is_collected : goal.returns-else-is_collected
unfolding zeros
returns-else-is_collected c =
    zero-passes _ _ _ _ _ c.is_collected.ensures c.if-is_collected.false _ _ _ c.read_archive_line.ensures refl (decided _ (slice_eq-Decides Decides-eqb _ _ _ c.eq.ensures))
