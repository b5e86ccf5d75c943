-- `lists::read_line` meets its contract.
use native.Mathlib.Omega.{arith}
use Prim.Native.Nat.{◌+◌, ◌-◌}
use mathlib.Core.Path.{◌≡◌}
use Rattle.lists.specs.Lines.{line_at}
use Rattle.lists.proofs.read_line.Goals as goal

pub returns : goal.returns
unfolding line_at
returns c = let n : c.args.at + 16 - c.args.at ≡ 16 = omega arith in rw n at c.copy_from_slice.ensures.after
