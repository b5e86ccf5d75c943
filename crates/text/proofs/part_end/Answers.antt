use Rattle.text.proofs.Fields.{scanning-start, scanning-found, scanning-next, scanning-end}
use Rattle.text.proofs.part_end.Goals as goal

pub loop-i-init : goal.loop-i-init
loop-i-init c = search scanning-start

pub returns-then-bytes-i : goal.returns-then-bytes-i
returns-then-bytes-i c = scanning-found c.loop-i.invariant c.loop-i-test.true c.if-bytes-i.true

pub loop-i-preserved : goal.loop-i-preserved
loop-i-preserved c = scanning-next c.loop-i.invariant c.loop-i-test.true c.if-bytes-i.false

pub returns : goal.returns
returns c = scanning-end c.loop-i.invariant c.loop-i-test.false
