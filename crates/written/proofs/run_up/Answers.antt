-- `written::run_up` meets its contract.
use Rattle.written.specs.Bits.{up_of}
use Rattle.written.proofs.run_up.Goals as goal

pub returns : goal.returns
unfolding up_of
returns c = cc
