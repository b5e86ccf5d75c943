-- `tally::add_answer` meets its contract: each arm writes one count.
use borrow.Author.Rules.{rules}
use Rattle.tally.proofs.Counting.{ok-more, no-more}
use Rattle.tally.proofs.add_answer.Goals as goal

pub returns-then-refusal-eq0 : goal.returns-then-refusal-eq0
returns-then-refusal-eq0 c = search (rules, ok-more)

pub returns-else-refusal-eq0 : goal.returns-else-refusal-eq0
returns-else-refusal-eq0 c = search (rules, no-more)
