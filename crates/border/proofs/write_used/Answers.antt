-- `border::write_used` meets its contract.
use mathlib.Core.Path.{refl}
use Rattle.border.proofs.Lent.{used-stored}
use Rattle.border.proofs.write_used.Goals as goal

pub returns : goal.returns
returns c = used-stored _ _ c.told-lent _ refl
