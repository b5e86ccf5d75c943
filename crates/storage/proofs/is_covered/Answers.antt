-- `storage::is_covered` meets its contract.
use mathlib.Core.Path.{sym}
use native.Mathlib.Omega.{arith}
use Rattle.storage.proofs.Admitting.{long-covers, not-covers}
use Rattle.storage.proofs.is_covered.Goals as goal

pub returns-then-lengths-need : goal.returns-then-lengths-need
returns-then-lengths-need c = sym (not-covers _ _ (λ g. omega arith))

pub returns-then-lengths-need-2 : goal.returns-then-lengths-need-2
returns-then-lengths-need-2 c = sym (not-covers _ _ (λ g. omega arith))

pub returns-then-lengths-need-3 : goal.returns-then-lengths-need-3
returns-then-lengths-need-3 c = sym (not-covers _ _ (λ g. omega arith))

pub returns-then-lengths-need-4 : goal.returns-then-lengths-need-4
returns-then-lengths-need-4 c = sym (not-covers _ _ (λ g. omega arith))

pub returns-then-lengths-need-5 : goal.returns-then-lengths-need-5
returns-then-lengths-need-5 c = sym (not-covers _ _ (λ g. omega arith))

pub returns-then-lengths-need-6 : goal.returns-then-lengths-need-6
returns-then-lengths-need-6 c = sym (not-covers _ _ (λ g. omega arith))

pub returns : goal.returns
returns c = sym (long-covers _ _ (omega arith))
