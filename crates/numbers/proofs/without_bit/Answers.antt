-- `numbers::without_bit` meets its contract.
use Rattle.numbers.proofs.Digits.{unset-told}
use borrow.Author.Rules.{rules}
use Rattle.numbers.proofs.without_bit.Goals as goal

pub returns : goal.returns
returns c = unset-told _ _ _ _ c.power_of_two-here.ensures.0 c.power_of_two-above.ensures.0 (search rules)
