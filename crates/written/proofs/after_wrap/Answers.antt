-- `written::after_wrap` meets its contract.
use Rattle.written.specs.Bits.{after_wrap}
use Rattle.written.proofs.after_wrap.Goals as goal

pub returns : goal.returns
unfolding after_wrap
returns c = cc
