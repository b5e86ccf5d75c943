-- `vcm::vcm_raw_line_refusal` meets its contract.
use mathlib.Core.Path.{sym}
use Rattle.vcm.proofs.vcm_raw_line_refusal.Goals as goal

pub returns : goal.returns
returns c = rw (c.refusal_number.ensures, sym c.read_registers.ensures) c.line_refusal-done.ensures
