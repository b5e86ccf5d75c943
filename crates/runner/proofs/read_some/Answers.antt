-- `runner::read_some` meets its contract.
use Rattle.runner.proofs.Reading.{reads-interrupted}
use Rattle.runner.proofs.read_some.Goals as goal

pub returns-then-eq-clause-reads : goal.returns-then-eq-clause-reads
returns-then-eq-clause-reads g c = reads-interrupted _ _
