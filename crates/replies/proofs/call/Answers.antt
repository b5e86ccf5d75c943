-- `replies::call` meets its contract: each record's call has the promise that the store's function ensures.
use Rattle.replies.proofs.Calls.{called-reset, called-read, called-write, called-mark, called-back, called-advance, called-counts}
use Rattle.replies.proofs.call.Goals as goal

pub returns-in-Reset : goal.returns-in-Reset
returns-in-Reset c =
    search (called-reset, c.in-Reset.is, c.number-first.ensures, c.number-second.ensures, c.number-third.ensures, c.reset-done.ensures.0, c.outcome_reply.ensures.0, c.outcome_reply.ensures.1)

pub returns-in-Read-clause-promise : goal.returns-in-Read-clause-promise
returns-in-Read-clause-promise c =
    rw (c.read_reply.ensures.0, c.read_reply.ensures.1) (called-read _ _ _ _ _ _ _ c.in-Read.is c.number-first.ensures c.number-second.ensures c.read-read.ensures.0)

pub returns-in-Write : goal.returns-in-Write
returns-in-Write c =
    search (called-write, c.in-Write.is, c.number-first.ensures, c.number-second.ensures, c.number-third.ensures, c.write-done.ensures.0, c.outcome_reply-in-Write.ensures.0, c.outcome_reply-in-Write.ensures.1)

pub returns-in-Mark : goal.returns-in-Mark
returns-in-Mark c = search (called-mark, c.in-Mark.is, c.mark-done.ensures.0, c.outcome_reply-in-Mark.ensures.0, c.outcome_reply-in-Mark.ensures.1)

pub returns-in-Back : goal.returns-in-Back
returns-in-Back c =
    search (called-back, c.in-Back.is, c.number-first.ensures, c.rollback-done.ensures.0, c.outcome_reply-in-Back.ensures.0, c.outcome_reply-in-Back.ensures.1)

pub returns-in-Advance : goal.returns-in-Advance
returns-in-Advance c =
    search (called-advance, c.in-Advance.is, c.number-first.ensures, c.advance-done.ensures.0, c.outcome_reply-in-Advance.ensures.0, c.outcome_reply-in-Advance.ensures.1)

pub returns-in-Counts-clause-promise : goal.returns-in-Counts-clause-promise
returns-in-Counts-clause-promise c =
    rw (c.counts_reply.ensures.0, c.counts_reply.ensures.1) (called-counts _ _ _ _ _ c.in-Counts.is c.counts-counts.ensures)
