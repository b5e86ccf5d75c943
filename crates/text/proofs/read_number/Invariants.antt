-- `text::read_number` meets its contract.
use Rattle.text.proofs.Reading.{Reading}
use Rattle.text.proofs.read_number.Given as goal

abbrev pub invariant-loop-b : goal.invariant-loop-b
invariant-loop-b l = Reading l.field l.b-index l.value
