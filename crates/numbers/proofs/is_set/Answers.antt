-- `numbers::is_set` meets its contract.
use Rattle.numbers.proofs.Digits.{bit-told}
use Rattle.numbers.proofs.is_set.Goals as goal

pub returns : goal.returns
returns c = bit-told _ _ _ c.power_of_two.ensures.0
