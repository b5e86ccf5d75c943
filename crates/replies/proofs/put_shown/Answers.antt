-- `replies::put_shown` meets its contract.
use native.Mathlib.Omega.{arith}
use Rattle.text.proofs.Putting.{puts_none, puts_then}
use Rattle.replies.specs.Answers.{values_text}
use Rattle.replies.specs.Lines.{answer_of}
use Rattle.replies.proofs.Lines.{number-ends}
use Rattle.replies.proofs.put_shown.Goals as goal

pub put_origin-requires : goal.put_origin-requires
put_origin-requires c = omega (arith, number-ends _ c.put_number-behind.ensures)

pub put_number-requires : goal.put_number-requires
put_number-requires c = omega (arith, number-ends _ c.put_number-behind-in-Counts.ensures)

pub returns-in-Nothing : goal.returns-in-Nothing
unfolding values_text answer_of
returns-in-Nothing c = rw c.in-Nothing.is (puts_none _ _)

pub returns-in-Read : goal.returns-in-Read
unfolding values_text answer_of
returns-in-Read c =
    rw c.in-Read.is (puts_then (omega arith) c.put_number-behind.ensures c.put_origin.ensures)

pub returns-in-Counts : goal.returns-in-Counts
unfolding values_text answer_of
returns-in-Counts c =
    rw c.in-Counts.is (puts_then (omega arith) c.put_number-behind-in-Counts.ensures c.put_number.ensures)
