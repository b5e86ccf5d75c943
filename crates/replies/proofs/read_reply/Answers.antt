-- `replies::read_reply` meets its contract.
use Rattle.std.proofs.Common.{refl}
use Rattle.versions.specs.Newest.{origin_of}
use Rattle.replies.specs.Lines.{answer_of}
use Rattle.replies.proofs.read_reply.Goals as goal

pub returns-in-Ok : goal.returns-in-Ok
unfolding answer_of origin_of
returns-in-Ok c = (refl, rw (c.refusal_number-refusal.ensures, c.in-Ok.is) refl)

pub returns-in-Err : goal.returns-in-Err
unfolding answer_of origin_of
returns-in-Err c = (refl, rw (c.refusal_number-refusal.ensures, c.in-Err.is) refl)
