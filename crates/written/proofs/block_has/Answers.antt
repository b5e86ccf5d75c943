use native.Mathlib.Omega.{arith}
use mathlib.Core.Path.{refl, ◌∙◌}
use Rattle.written.proofs.Blocks.{up-some, none_more, lines_more, block_none, block-found}
use Rattle.written.proofs.block_has.Goals as goal

pub lines-init : goal.lines-init
lines-init c = ((λ m b. absurd (omega arith)), refl)

pub loop-i-init : goal.loop-i-init
loop-i-init c = (omega arith, (λ k a b. absurd (omega arith)), c.lines.invariant.1)

pub overflow_mul-block : goal.overflow_mul-block
overflow_mul-block c = omega arith

pub overflow_add-block : goal.overflow_add-block
overflow_add-block c = omega arith

pub run_has-requires : goal.run_has-requires
run_has-requires c =
    (record { lent = c.requires.lent; line_below = omega arith; index_below = omega arith }, c.requires.end_within)

pub run_up-i-requires : goal.run_up-i-requires
run_up-i-requires c = omega arith

pub overflow_add-i : goal.overflow_add-i
overflow_add-i c = omega (arith, up-some _ _ _ _ _ c.loop-i-test.true c.run_up-i.ensures)

pub loop-i-smaller : goal.loop-i-smaller
loop-i-smaller c = omega (arith, up-some _ _ _ _ _ c.loop-i-test.true c.run_up-i.ensures)

pub loop-i-preserved : goal.loop-i-preserved
loop-i-preserved c = (omega arith, search none_more, c.loop-i.invariant.2)

pub lines-preserved : goal.lines-preserved
lines-preserved c = (search lines_more, c.loop-i.invariant.2)

pub returns-after-lines : goal.returns-after-lines
returns-after-lines c = c.lines.invariant.1 ∙ search block_none

pub returns-then-run_has : goal.returns-then-run_has
returns-then-run_has c = search block-found
