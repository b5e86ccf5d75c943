-- `written::first_index` meets its contract.
use Prim.Native.Nat.{◌*◌}
use Rattle.frames.proofs.Circle.{index_below}
use Rattle.written.specs.Bits.{first_index}
use native.Mathlib.Omega.{arith}
use Rattle.written.proofs.first_index.Goals as goal

pub returns : goal.returns
unfolding first_index
returns c = (c.index.ensures, omega (arith, index_below _ _ c.requires.0 (c.args.area * 16), c.index.ensures))
