use mathlib.Core.Path.{refl}
use native.Mathlib.Omega.{arith}
use Rattle.written.proofs.Entering.{walk-on, walk-stop, walk-bottom}
use Rattle.written.proofs.enter.Goals as goal

pub returns-then-history-t : goal.returns-then-history-t
returns-then-history-t c =
    let w = walk-stop c.loop-t.invariant.1 _ refl (omega arith) (omega arith) in
    record { entered = w.0; settled = w.1.0; compared = w.1.1 }

pub loop-t-preserved : goal.loop-t-preserved
loop-t-preserved c = (omega arith, walk-on c.loop-t.invariant.1 (omega arith) (omega arith))

pub returns : goal.returns
returns c =
    let w = walk-bottom c.loop-t.invariant.1 _ refl (omega arith) in
    record { entered = w.0; settled = w.1.0; compared = w.1.1 }
