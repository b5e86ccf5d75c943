use borrow.Author.Rules.{rules}
use Rattle.session.proofs.Lines.{lines_start}
use Rattle.session.proofs.Stepping.{turn-empty, turn-down, turn-call}
use Rattle.session.proofs.answer_lines.Goals as goal

pub loop-filled-init : goal.loop-filled-init
loop-filled-init c = record { pieces = search rules; lines = lines_start _ _ _ _ _ (search rules) (search rules) }

pub loop-filled-preserved-then-end-used : goal.loop-filled-preserved-then-end-used
loop-filled-preserved-then-end-used c = record { pieces = c.loop-filled.invariant.pieces; lines = search turn-empty }

pub loop-filled-preserved-in-Err : goal.loop-filled-preserved-in-Err
loop-filled-preserved-in-Err c =
    record {
      pieces = c.loop-filled.invariant.pieces;
      lines =
          search (
            turn-down,
            c.loop-filled.invariant.lines,
            c.part_end-end.ensures,
            c.if-count-end.false,
            c.loop-filled-test.true,
            c.if-end-used.false,
            c.in-Err.ensures,
            c.from-turned.ensures,
            c.put_answer-filled.ensures,
            c.tallied-tally.ensures,
          );
    }

pub loop-filled-preserved : goal.loop-filled-preserved
loop-filled-preserved c =
    record {
      pieces = search (rules, c.call-reply.ensures.pieces, c.loop-filled.invariant.pieces);
      lines =
          search (
            turn-call,
            c.loop-filled.invariant.lines,
            c.part_end-end.ensures,
            c.if-count-end.false,
            c.loop-filled-test.true,
            c.if-end-used.false,
            c.in-Ok.ensures,
            c.call-reply.ensures.promise,
            c.put_answer-filled-in-loop-filled.ensures,
            c.tallied-tally-in-loop-filled.ensures,
            c.has_started-started.ensures,
          );
    }
