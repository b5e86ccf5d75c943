-- `writing::write_admitted` meets its contract.
use Rattle.std.proofs.Common.{refl}
use Rattle.rules.proofs.Refusals.{err-is, number-some}
use mathlib.Core.Path.{sym, ◌∙◌}
use Rattle.cache.proofs.Hits.{found-few, of-hit}
use Rattle.storage.proofs.Admitting.{room-passed}
use Rattle.storage.proofs.Storing.{write-refused}
use Rattle.storage.proofs.Editing.{asks-edit, edit-done}
use Rattle.writing.proofs.write_admitted.Goals as goal

pub write_refusal-requires : goal.write_refusal-requires
write_refusal-requires c = let r = room-passed _ _ c.requires in (r.lines_from, r.lines_to)

pub returns-in_err-write_refusal : goal.returns-in_err-write_refusal
returns-in_err-write_refusal c = rw (err-is _ _ c.from_residual.ensures.1) (write-refused _ _ _ _ _ c.requires c.in_err-write_refusal.ensures (number-some _))

pub of_frame-requires : goal.of_frame-requires
of_frame-requires c = found-few _ _ _ _ c.find-found.ensures

pub write_again-requires : goal.write_again-requires
write_again-requires c =
    asks-edit _ _ _ _ _ _ _ _ _ _ _ c.requires c.in_ok-write_refusal.ensures refl _
    (found-few _ _ _ _ c.find-found.ensures _ (of-hit _ _ _ _ (sym c.of_frame.ensures ∙ c.in-Some.is)).0)

pub returns-in-Some : goal.returns-in-Some
returns-in-Some c =
    let left = c.write_again.ensures in
    edit-done _ _ _ _ _ c.requires c.in_ok-write_refusal.ensures refl _ c.find-found.ensures _ c.of_frame.ensures _ c.in-Some.is _ _ _ _
    left.bytes left.last left.pool left.groups
