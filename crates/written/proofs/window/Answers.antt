-- `written::window` meets its contract.
use Rattle.written.proofs.Windows.{window-told}
use Rattle.written.proofs.window.Goals as goal

pub returns : goal.returns
returns c = search window-told
