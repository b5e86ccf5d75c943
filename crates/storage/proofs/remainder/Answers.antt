-- `storage::remainder` meets its contract.
use Rattle.storage.proofs.Chains.{rest-one, rest-two, rest-four}
use Rattle.storage.proofs.remainder.Goals as goal

pub returns-then-width-eq1 : goal.returns-then-width-eq1
returns-then-width-eq1 c = rest-one _ _ c.if-width-eq1.true

pub returns-then-width-eq2 : goal.returns-then-width-eq2
returns-then-width-eq2 c = rest-two _ _ c.if-width-eq2.true

pub returns : goal.returns
returns c = rest-four _ _ c.requires c.if-width-eq1.false c.if-width-eq2.false
