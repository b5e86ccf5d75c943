-- `lists::write_value` meets its contract.
use Rattle.lists.proofs.Values.{four_inside, edit-one, edit-two, edit-four}
use mathlib.Core.Path.{◌∙◌}
use Rattle.lists.proofs.write_value.Goals as goal

pub returns-then-width-eq1 : goal.returns-then-width-eq1
returns-then-width-eq1 c = edit-one _ _ _ _ c.requires c.if-width-eq1.true

pub returns-then-width-eq2 : goal.returns-then-width-eq2
returns-then-width-eq2 c =
    edit-two _ _ _ _ c.requires _ c.if-width-eq2.true (c.copy_from_slice.ensures.after ∙ c.to_be_bytes.ensures)

pub slice_bounds-copy_from_slice-end-2 : goal.slice_bounds-copy_from_slice-end-2
slice_bounds-copy_from_slice-end-2 c = four_inside c.requires c.if-width-eq1.false c.if-width-eq2.false

pub returns : goal.returns
returns c =
    edit-four _ _ _ _ c.requires _ c.if-width-eq1.false c.if-width-eq2.false
    (c.copy_from_slice-2.ensures.after ∙ c.to_be_bytes-2.ensures)
