-- `vcm::vcm_raw_rollback` meets its contract.
use mathlib.Core.Path.{sym}
use Rattle.vcm.proofs.vcm_raw_rollback.Goals as goal

pub returns-in-Ok : goal.returns-in-Ok
returns-in-Ok c =
    rw (c.write_registers.ensures, sym c.read_registers.ensures) c.in-Ok.ensures
