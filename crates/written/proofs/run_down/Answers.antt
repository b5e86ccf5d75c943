-- `written::run_down` meets its contract.
use Rattle.written.specs.Bits.{down_of}
use Rattle.written.proofs.run_down.Goals as goal

pub returns : goal.returns
unfolding down_of
returns c = cc
