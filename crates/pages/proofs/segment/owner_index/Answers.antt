-- `pages::segment::owner_index` meets its contract.
use mathlib.Core.Path.{◌∙◌}
use Rattle.pages.proofs.Halving.{index-high, index-own}
use Rattle.pages.proofs.segment.owner_index.Goals as goal

pub returns-then-shape-frame : goal.returns-then-shape-frame
returns-then-shape-frame c = search index-high

pub returns : goal.returns
returns c = c.index.ensures ∙ index-own _ _ _ c.if-shape-frame.false
