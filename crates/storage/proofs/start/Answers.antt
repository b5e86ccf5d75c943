-- `storage::start` meets its contract.
use mathlib.Core.Path.{sym}
use Rattle.storage.proofs.Rings.{start-same, start_none}
use Rattle.storage.proofs.start.Goals as goal

pub returns-then-first-pages : goal.returns-then-first-pages
returns-then-first-pages c = sym (start-same _ _ c.if-first-pages.true)

pub returns-else-first-pages : goal.returns-else-first-pages
returns-else-first-pages c = sym (start_none _ _ c.if-first-pages.false)
