-- `storage::admit` meets its contract.
use Rattle.storage.proofs.Admitting.{admitted-told, outside-cmf, outside-omf, inside-limits}
use Rattle.storage.proofs.admit.Goals as goal

pub returns-then-registers : goal.returns-then-registers
returns-then-registers c = admitted-told _ _ _ _ (search outside-cmf)

pub returns-then-registers-2 : goal.returns-then-registers-2
returns-then-registers-2 c = admitted-told _ _ _ _ (search outside-omf)

pub returns : goal.returns
returns c =
    admitted-told _ _ _ _ (inside-limits _ _ c.if-registers.false c.if-registers-2.false _ c.test_settings.ensures)
