-- `replies::put_answer` meets its contract.
use native.Mathlib.Omega.{arith}
use Rattle.replies.proofs.Lines.{number-ends, values-ends, puts-no, puts-ok}
use Rattle.replies.proofs.put_answer.Goals as goal

pub put-requires : goal.put-requires
put-requires c = omega (arith, number-ends _ c.put_number-behind.ensures)

pub returns-then-refusal-ne0 : goal.returns-then-refusal-ne0
returns-then-refusal-ne0 c = search puts-no

pub put-requires-2 : goal.put-requires-2
put-requires-2 c = omega (arith, values-ends _ c.put_shown-behind.ensures)

pub returns : goal.returns
returns c = search puts-ok
