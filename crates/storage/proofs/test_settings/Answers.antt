-- `storage::test_settings` meets its contract.
use Rattle.storage.proofs.Admitting.{outside-told, long-told, short-told}
use Rattle.storage.proofs.test_settings.Goals as goal

pub returns-then-need-ne0 : goal.returns-then-need-ne0
returns-then-need-ne0 c = outside-told _ _ _ _ c.sizes-need.ensures c.if-need-ne0.true

pub returns-then-not-is_covered : goal.returns-then-not-is_covered
returns-then-not-is_covered c = short-told _ _ _ _ c.sizes-need.ensures c.if-need-ne0.false _ c.is_covered.ensures c.if-not-is_covered.true

pub returns : goal.returns
returns c = long-told _ _ _ _ c.sizes-need.ensures c.if-need-ne0.false _ c.is_covered.ensures c.if-not-is_covered.false
