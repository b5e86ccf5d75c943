-- `written::needed` meets its contract.
use native.Mathlib.Omega.{arith}
use Rattle.written.proofs.Blanks.{none-set, index-within}
use Rattle.written.proofs.Blocks.{one-frame}
use Rattle.written.proofs.needed.Goals as goal

pub returns-then-set_in-eq0 : goal.returns-then-set_in-eq0
returns-then-set_in-eq0 c = search none-set

pub overflow_add-index : goal.overflow_add-index
overflow_add-index c = omega (arith, (index-within _ _ _ c.requires _ c.index-index.ensures).end_within)

pub block_has-requires : goal.block_has-requires
block_has-requires c = search index-within

pub returns : goal.returns
returns c = search one-frame
