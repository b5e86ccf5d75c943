-- What COUNTS gave, as the papers have it: refused, both numbers are 0.
use Rattle.std.specs.Prelude.{Result, Ok, Err}
use Rattle.rules.specs.Call.{Answer}
use Rattle.rules.specs.Call.Answer.{counting}
use Rattle.rules.specs.declared.Refusal.{Refusal}
use Rattle.rules.specs.Refusals.{number}
use Rattle.marks.specs.declared.Counted.{Counted}

abbrev pub counts_in : Result Counted Refusal → Answer
counts_in (Ok done) = counting 0 done.live done.pages
counts_in (Err refusal) = counting (number refusal) 0 0
