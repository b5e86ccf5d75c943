-- `session::feed_rest` meets its contract.
use Rattle.session.proofs.Resting.{rested-full, rested-kept}
use Rattle.session.proofs.feed_rest.Goals as goal

pub returns-then-room-lines-lt-LONGEST-clause-rested : goal.returns-then-room-lines-lt-LONGEST-clause-rested
returns-then-room-lines-lt-LONGEST-clause-rested c = search rested-full

pub returns-clause-rested : goal.returns-clause-rested
returns-clause-rested c =
    search (rested-kept, c.answer_lines-lines.ensures.lines.0, c.answer_lines-lines.ensures.lines.1, c.if-room-lines-lt-LONGEST.false, c.no_line-none.ensures, c.keep-reader.ensures)
