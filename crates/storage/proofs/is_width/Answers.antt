-- `storage::is_width` meets its contract.
use mathlib.Core.Logic.{inl, inr}
use Rattle.storage.proofs.Chains.{width_is, width-none}
use Rattle.storage.proofs.is_width.Goals as goal

pub returns-then-width-eq1 : goal.returns-then-width-eq1
returns-then-width-eq1 c = width_is _ (inl c.if-width-eq1.true)

pub returns-then-width-eq2 : goal.returns-then-width-eq2
returns-then-width-eq2 c = width_is _ (inr (inl c.if-width-eq2.true))

pub returns-then-width-eq4 : goal.returns-then-width-eq4
returns-then-width-eq4 c = width_is _ (inr (inr c.if-width-eq4.true))

pub returns : goal.returns
returns c = search width-none
