-- `written::unset` meets its contract.
use mathlib.Core.Path.{ap}
use Prim.Native.Nat.{ℕ, ◌+◌, ◌*◌, ◌/◌}
use Rattle.written.specs.Steps.{unset_in}
use Rattle.written.proofs.unset.Goals as goal

pub returns : goal.returns
unfolding unset_in
returns c = ap (λ (b : ℕ). c.args.group / 65536 * 65536 + b) c.without_bit.ensures.0
