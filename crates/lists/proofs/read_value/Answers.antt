-- `lists::read_value` meets its contract.
use Rattle.lists.proofs.Values.{four_inside, value-one, value-two, value-four}
use mathlib.Core.Path.{◌∙◌}
use native.Mathlib.Omega.{arith}
use Rattle.lists.proofs.read_value.Goals as goal

pub returns-then-width-eq1 : goal.returns-then-width-eq1
returns-then-width-eq1 c = c.from.ensures ∙ value-one _ _ _ c.requires c.if-width-eq1.true

pub returns-then-width-eq2 : goal.returns-then-width-eq2
returns-then-width-eq2 c =
    c.from-then-width-eq2.ensures ∙ (c.from_be_bytes.ensures ∙ value-two _ _ _ c.requires c.if-width-eq2.true)

pub bounds-list-at-2 : goal.bounds-list-at-2
bounds-list-at-2 c = omega (arith, four_inside c.requires c.if-width-eq1.false c.if-width-eq2.false)

pub bounds-list-at-3 : goal.bounds-list-at-3
bounds-list-at-3 c = omega (arith, four_inside c.requires c.if-width-eq1.false c.if-width-eq2.false)

pub bounds-list-at-4 : goal.bounds-list-at-4
bounds-list-at-4 c = omega (arith, four_inside c.requires c.if-width-eq1.false c.if-width-eq2.false)

pub bounds-list-at-5 : goal.bounds-list-at-5
bounds-list-at-5 c = omega (arith, four_inside c.requires c.if-width-eq1.false c.if-width-eq2.false)

pub returns : goal.returns
returns c = c.from_be_bytes-2.ensures ∙ value-four _ _ _ c.requires c.if-width-eq1.false c.if-width-eq2.false
