-- `session::start` meets its contract.
use Rattle.session.proofs.Answering.{stands-first}
use Rattle.session.proofs.start.Goals as goal

pub returns : goal.returns
returns c = λ lent. search stands-first
