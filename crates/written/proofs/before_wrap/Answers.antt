-- `written::before_wrap` meets its contract.
use Rattle.written.specs.Bits.{before_wrap}
use Rattle.written.proofs.before_wrap.Goals as goal

pub returns : goal.returns
unfolding before_wrap
returns c = cc
