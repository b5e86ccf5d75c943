-- `border::read_registers` meets its contract.
use mathlib.Core.Path.{refl}
use Rattle.border.specs.Lent.{registers_from}
use Rattle.border.proofs.read_registers.Goals as goal

pub returns : goal.returns
unfolding registers_from
returns c = refl
