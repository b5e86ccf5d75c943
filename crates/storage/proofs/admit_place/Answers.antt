-- `storage::admit_place` meets its contract.
use Rattle.std.proofs.Common.{◌∙◌, refl}
use Rattle.rules.proofs.Refusals.{number-some, handed-on}
use Rattle.storage.proofs.Chains.{place-told, admitted-turned, admitted-on}
use Rattle.storage.proofs.admit_place.Goals as goal

pub returns-in_err-admit : goal.returns-in_err-admit
returns-in_err-admit c =
    place-told _ _ _ _ _ (handed-on _ _ c.from_residual.ensures.1 ∙ admitted-turned _ _ _ c.in_err-admit.ensures.0 _ (number-some _))

pub place_refusal-requires : goal.place_refusal-requires
place_refusal-requires c = let r = c.in_ok-admit.ensures.1 refl in (r.lines_from, r.lines_to)

pub returns : goal.returns
returns c = place-told _ _ _ _ _ (admitted-on _ _ _ c.in_ok-admit.ensures.0 refl _ _ c.place_refusal.ensures)
