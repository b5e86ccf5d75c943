-- `storage::asked_refusal` meets its contract.
use Rattle.storage.proofs.Admitting.{asked-told}
use Rattle.storage.proofs.asked_refusal.Goals as goal

pub returns : goal.returns
returns c = asked-told _ _ _ c.test_settings.ensures
