-- `numbers::newest_bit` meets its contract.
use Rattle.numbers.proofs.Digits.{newest-none, newest-at}
use borrow.Author.Rules.{rules}
use Rattle.numbers.proofs.newest_bit.Goals as goal

pub returns-then-y-low : goal.returns-then-y-low
returns-then-y-low c = search newest-none

pub returns : goal.returns
returns c = search (rules, newest-at)
