-- `storage::is_value` meets its contract.
use borrow.Author.Rules.{rules}
use Rattle.storage.proofs.Chains.{value-below, value-above, value-four}
use Rattle.storage.proofs.is_value.Goals as goal

pub returns-then-value-lt256 : goal.returns-then-value-lt256
returns-then-value-lt256 c = value-below _ _ 1 c.if-width-eq1.true c.if-value-lt256.true

pub returns-then-width-eq1 : goal.returns-then-width-eq1
returns-then-width-eq1 c = value-above _ _ 1 c.if-width-eq1.true c.if-value-lt256.false

pub returns-then-value-lt65536 : goal.returns-then-value-lt65536
returns-then-value-lt65536 c = value-below _ _ 2 c.if-width-eq2.true c.if-value-lt65536.true

pub returns-then-width-eq2 : goal.returns-then-width-eq2
returns-then-width-eq2 c = value-above _ _ 2 c.if-width-eq2.true c.if-value-lt65536.false

pub returns : goal.returns
returns c = search (rules, value-four)
