-- `replies::put_end` meets its contract.
use native.Mathlib.Omega.{arith}
use Rattle.replies.proofs.Lines.{number-ends, puts-end}
use Rattle.replies.proofs.put_end.Goals as goal

pub put_number-second-requires : goal.put_number-second-requires
put_number-second-requires c = omega (arith, number-ends _ c.put_number-first.ensures)

pub put-requires : goal.put-requires
put-requires c = omega (arith, number-ends _ c.put_number-first.ensures, number-ends _ c.put_number-second.ensures)

pub returns : goal.returns
returns c = search puts-end
