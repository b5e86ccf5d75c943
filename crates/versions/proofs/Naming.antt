-- Whether a line is empty and the origin that a read names, in the form in which the code has the tests. Assumes nothing.
use mathlib.Core.Path.{◌≡◌, sym, ◌∙◌, ap}
use mathlib.Core.Bool.{Bool, true, false, cond}
use Prim.Native.Nat.{ℕ}
use Rattle.versions.specs.declared.Origin.{Origin}
use Rattle.versions.specs.declared.Origin.TheVariants.{Empty}
use Rattle.versions.specs.Newest.{is_empty, empty_or}

module _ (here : Bool) (frame : ℕ) where
  module _ (found : Origin) (r : Bool) (e : r ≡ is_empty here frame) where
    pub named-empty : r ≡ true → Empty ≡ empty_or here frame found
    unfolding empty_or
    named-empty t = sym (ap (λ (b : Bool). cond b Empty found) (sym e ∙ t))

    pub named-found : r ≡ false → found ≡ empty_or here frame found
    unfolding empty_or
    named-found t = sym (ap (λ (b : Bool). cond b Empty found) (sym e ∙ t))
