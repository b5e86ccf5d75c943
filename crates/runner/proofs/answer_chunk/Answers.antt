use native.Mathlib.Omega.{arith}
use borrow.Author.Rules.{rules}
use Rattle.std.proofs.lemmas.Grind.{common_steps}
use Rattle.runner.proofs.Going.{going_next, answers-all}
use Rattle.runner.proofs.answer_chunk.Goals as goal

pub loop-rest-preserved : goal.loop-rest-preserved
loop-rest-preserved g c =
    record {
      pieces = search (rules, c.feed-told.ensures.pieces, c.loop-rest.invariant.pieces);
      going = going_next c.loop-rest.invariant.going c.feed-told.ensures.taken;
    }

pub returns-clause-answers : goal.returns-clause-answers
returns-clause-answers g c = answers-all c.loop-rest.invariant.going (grind (arith, common_steps, c.loop-rest-test.ensures))
