use mathlib.Core.Path.{◌∙◌}
use native.Mathlib.Omega.{arith}
use Rattle.std.proofs.lemmas.Bool.Decides.{nat_tests}
use Rattle.text.proofs.Reading.{number-empty, number-long, number-other, reading-next, digit-other, number-read}
use Rattle.text.proofs.read_number.Goals as goal
use Rattle.text.proofs.read_number.Goals.{then-is_empty-via-then-is_empty, then-is_empty-via-else-is_empty+then-field-gt10}

pub returns-then-is_empty : goal.returns-then-is_empty
returns-then-is_empty c =
    elim c.then-is_empty.branch [
      | then-is_empty-via-then-is_empty w ↦ number-empty _ (grind (arith, nat_tests))
      | then-is_empty-via-else-is_empty+then-field-gt10 w ↦ number-long _ w.if-field-gt10.true
    ]

pub returns-then-not-is_ascii_digit : goal.returns-then-not-is_ascii_digit
returns-then-not-is_ascii_digit c = number-other _ _ _ c.loop-b.invariant c.loop-b-test.true (digit-other _ c.if-not-is_ascii_digit.ensures.cases)

pub loop-b-preserved : goal.loop-b-preserved
loop-b-preserved c =
    let digit = c.if-not-is_ascii_digit.ensures.cases in
    rw c.from.ensures (reading-next _ _ _ c.loop-b.invariant c.loop-b-test.true digit.0 digit.1)

pub returns : goal.returns
returns c = c.ok.ensures.value ∙ number-read _ _ _ c.loop-b.invariant (grind (arith, nat_tests)) c.if-field-gt10.false c.loop-b-test.false _ c.try_from.ensures
