-- `replies::outcome_reply` meets its contract.
use Rattle.std.proofs.Common.{refl, ap}
use Rattle.rules.specs.Call.Answer.{outcome}
use Rattle.replies.specs.Lines.{answer_of}
use Rattle.replies.proofs.outcome_reply.Goals as goal

pub returns : goal.returns
unfolding answer_of
returns c = (refl, ap outcome c.refusal_number.ensures)
