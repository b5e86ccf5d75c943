-- `pages::segment::is_own` meets its contract.
use mathlib.Core.Path.{sym, ◌∙◌}
use native.Mathlib.Omega.{arith}
use borrow.Author.Tests.{ltb-true, ltb-false}
use Rattle.pages.proofs.Owning.{own-past, own-outside, own-told}
use Rattle.pages.proofs.segment.is_own.Goals as goal
use Rattle.pages.proofs.segment.is_own.Goals.{then-page-ring, else-page-ring}

pub returns-then-index-ring : goal.returns-then-index-ring
returns-then-index-ring c =
    elim c.if-page-ring.branch [
      | then-page-ring w ↦
          own-told _ _ _ _ _ _ w.if-page-ring.true _ w.index.ensures (ltb-true _ _ (sym w.value-is ∙ c.if-index-ring.true))
      | else-page-ring w ↦ absurd (omega (arith, ltb-true _ _ (sym w.value-is ∙ c.if-index-ring.true)))
    ]

pub returns-else-index-ring : goal.returns-else-index-ring
returns-else-index-ring c =
    elim c.if-page-ring.branch [
      | then-page-ring w ↦
          c.if-index-ring.false
          ∙ own-outside _ _ _ _ _ _ w.if-page-ring.true _ w.index.ensures (ltb-false _ _ (sym w.value-is ∙ c.if-index-ring.false))
      | else-page-ring w ↦ c.if-index-ring.false ∙ own-past _ _ _ _ _ _ w.if-page-ring.false
    ]
