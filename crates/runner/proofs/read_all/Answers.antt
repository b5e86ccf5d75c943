use borrow.Author.Rules.{rules}
use Rattle.runner.proofs.Reading.{underway-start, underway-next, reads_all}
use Rattle.runner.proofs.read_all.Goals as goal

pub loop-init : goal.loop-init
loop-init g c = record { pieces = search rules; underway = underway-start _ _ _ }

pub returns-in-Ok-None-clause-reads : goal.returns-in-Ok-None-clause-reads
returns-in-Ok-None-clause-reads g c =
    reads_all c.loop.invariant.underway c.read_some-read.ensures.reads c.in-Ok-None.is (rw c.in-Ok-None.is at c.in-Ok-None.field-0-is) (c.start-runner.ensures _)

pub loop-preserved : goal.loop-preserved
loop-preserved g c =
    record {
      pieces = search (rules, c.read_some-read.ensures.pieces, c.loop.invariant.pieces);
      underway =
          underway-next c.loop.invariant.underway c.read_some-read.ensures.reads _ c.in-Ok-Some.is (rw c.in-Ok-Some.is at c.in-Ok-Some.field-0-is) c.read_some-read.auto.out;
    }
