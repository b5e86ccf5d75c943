-- `session::finish` meets its contract.
use Rattle.session.proofs.Finishing.{finished-short, finished}
use Rattle.session.proofs.finish.Goals as goal

pub returns-then-room-filled-lt-LONGEST_END-clause-finished : goal.returns-then-room-filled-lt-LONGEST_END-clause-finished
returns-then-room-filled-lt-LONGEST_END-clause-finished c = search finished-short

pub returns-clause-finished : goal.returns-clause-finished
returns-clause-finished c = search finished
