-- `replies::put_number` meets its contract.
use native.Mathlib.Omega.{arith}
use Rattle.text.proofs.Putting.{puts_then}
use Rattle.replies.proofs.put_number.Goals as goal

pub returns : goal.returns
returns c = puts_then (omega arith) c.put-behind.ensures c.put_decimal.ensures
