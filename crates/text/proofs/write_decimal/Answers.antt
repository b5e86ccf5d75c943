use borrow.Author.Rules.{rules}
use native.Mathlib.Omega.{arith}
use Rattle.text.proofs.Writing.{writing_start, writing-some, writing-slot, writing-next, writing-bound, writing-part}
use Rattle.text.proofs.write_decimal.Goals as goal

pub loop-rest-init : goal.loop-rest-init
loop-rest-init c = search (rules, writing_start)

pub overflow_sub-i : goal.overflow_sub-i
overflow_sub-i c = writing-some c.loop-rest.invariant

pub bounds-scratch-i : goal.bounds-scratch-i
bounds-scratch-i c = writing-slot c.loop-rest.invariant

pub loop-rest-smaller : goal.loop-rest-smaller
loop-rest-smaller c = omega arith

pub loop-rest-preserved : goal.loop-rest-preserved
loop-rest-preserved c = writing-next c.loop-rest.invariant c.loop-rest-test.true

pub overflow_sub-i-2 : goal.overflow_sub-i-2
overflow_sub-i-2 c = writing-some c.loop-rest.invariant

pub bounds-scratch-i-2 : goal.bounds-scratch-i-2
bounds-scratch-i-2 c = writing-slot c.loop-rest.invariant

pub slice_bounds-result-count : goal.slice_bounds-result-count
slice_bounds-result-count c = writing-bound c.loop-rest.invariant _

pub slice_bounds-result-start : goal.slice_bounds-result-start
slice_bounds-result-start c = writing-bound c.loop-rest.invariant _

pub returns : goal.returns
returns c = writing-part c.loop-rest.invariant c.loop-rest-test.false
