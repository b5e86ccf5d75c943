-- `trial::take_back` meets its contract: the promises of its calls, one after the other, are a run of demand 3.
use Rattle.rules.specs.Promise.RunBy.{stop, next}
use Rattle.store.proofs.Demand3.{store-refusal, store-answers}
use Rattle.trial.proofs.Gone.{taken_back}
use Rattle.trial.proofs.take_back.Goals as goal

pub returns-clause-answers : goal.returns-clause-answers
returns-clause-answers c =
    let calls = next c.write-before.ensures.0 (next c.mark-mark.ensures.0 (next c.write-after.ensures.0 (next c.rollback-back.ensures.0 (next c.read-read.ensures.0 stop)))) in
    let told = c.reset-reset.ensures.0 in
    (store-refusal _ _ _ _ told, λ z. store-answers _ _ _ _ _ _ _ z told calls, λ z. taken_back _ _ _ _ _ _ _ _ _ _ _ _ (store-answers _ _ _ _ _ _ _ z told calls))
