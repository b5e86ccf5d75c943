-- `records::gather` meets its contract.
use lib.ListN.{length}
use Rattle.records.proofs.Gathering.{Gathering}
use Rattle.records.proofs.gather.Given as goal

abbrev pub invariant-loop-fields : goal.invariant-loop-fields
invariant-loop-fields l = Gathering l.text l.numbers l.count l.rest

abbrev pub decreases-loop-fields : goal.decreases-loop-fields
decreases-loop-fields l = length l.rest
