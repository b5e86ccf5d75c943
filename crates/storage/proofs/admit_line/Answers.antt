-- `storage::admit_line` meets its contract.
use Rattle.std.proofs.Common.{◌∙◌, refl}
use Rattle.rules.proofs.Refusals.{number-some, handed-on}
use Rattle.storage.proofs.Chains.{line-told, admitted-turned, line-passes, line-past}
use Rattle.storage.proofs.admit_line.Goals as goal

pub returns-in_err-admit : goal.returns-in_err-admit
returns-in_err-admit c =
    line-told _ _ _ _ (handed-on _ _ c.from_residual.ensures.1 ∙ admitted-turned _ _ _ c.in_err-admit.ensures.0 _ (number-some _))

pub returns-then-line-registers : goal.returns-then-line-registers
returns-then-line-registers c = line-told _ _ _ _ (line-passes _ _ _ c.in_ok-admit.ensures.0 refl _ c.if-line-registers.true)

pub returns : goal.returns
returns c = line-told _ _ _ _ (line-past _ _ _ c.in_ok-admit.ensures.0 refl _ c.if-line-registers.false)
