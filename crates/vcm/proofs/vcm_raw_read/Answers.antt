-- `vcm::vcm_raw_read` meets its contract.
use Rattle.std.proofs.Common.{refl}
use Rattle.rules.specs.Call.Origin.{from}
use Rattle.rules.specs.Call.Place.{in_archive}
use Rattle.border.specs.Answers.{origin_number, marks_back}
use Rattle.vcm.proofs.vcm_raw_read.Goals as goal

pub returns-in-Err : goal.returns-in-Err
unfolding origin_number marks_back
returns-in-Err c =
    rw c.from.ensures
    (record { found = from in_archive; reads = rw c.read_registers.ensures at c.in-Err.ensures; origin_is = refl; back_is = refl })
