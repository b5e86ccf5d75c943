-- `text::write_decimal` meets its contract.
use lib.ListN.{length}
use Rattle.text.proofs.Writing.{Writing}
use Rattle.text.proofs.write_decimal.Given as goal

abbrev pub invariant-loop-rest : goal.invariant-loop-rest
invariant-loop-rest l = Writing l.n (length l.initial.scratch) l.i l.rest l.scratch

abbrev pub decreases-loop-rest : goal.decreases-loop-rest
decreases-loop-rest l = l.rest
