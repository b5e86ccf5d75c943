-- `frames::index` meets its contract.
use Rattle.frames.proofs.Circle.{index_on, index-round}
use Rattle.frames.proofs.index.Goals as goal

pub returns-then-omf-frame : goal.returns-then-omf-frame
returns-then-omf-frame c = search index_on

pub returns : goal.returns
returns c = search index-round
