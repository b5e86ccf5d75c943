-- `numbers::range` meets its contract.
use Rattle.numbers.specs.Digits.{range_of}
use Rattle.numbers.proofs.range.Goals as goal

pub returns : goal.returns
unfolding range_of
returns c = cc
