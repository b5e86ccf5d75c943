-- `storage::write_refusal` meets its contract.
use Rattle.std.proofs.Common.{◌∙◌, refl}
use Rattle.rules.proofs.Refusals.{number-some, handed-on}
use Rattle.storage.proofs.Chains.{write-turned, write-passes, write-wide, write-width}
use Rattle.storage.proofs.write_refusal.Goals as goal

pub returns-in_err-place_refusal : goal.returns-in_err-place_refusal
returns-in_err-place_refusal c =
    handed-on _ _ c.from_residual.ensures.1 ∙ write-turned _ _ _ _ _ c.in_err-place_refusal.ensures (number-some _)

pub is_value-requires : goal.is_value-requires
is_value-requires c = write-width _ _ _ 0 _ c.in_ok-place_refusal.ensures refl

pub returns-then-is_value : goal.returns-then-is_value
returns-then-is_value c = write-passes _ _ _ _ _ c.in_ok-place_refusal.ensures refl _ c.is_value.ensures c.if-is_value.true

pub returns : goal.returns
returns c = write-wide _ _ _ _ _ c.in_ok-place_refusal.ensures refl _ c.is_value.ensures c.if-is_value.false
