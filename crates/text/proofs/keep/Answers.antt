-- `text::keep` meets its contract.
use mathlib.Core.Path.{◌∙◌, ap}
use mathlib.Core.List.{◌++◌}
use lib.ListN.{take}
use native.Mathlib.Omega.{arith}
use Rattle.std.proofs.lemmas.Slice.{take-put_mid}
use borrow.Author.Rules.{rules}
use Rattle.std.proofs.lemmas.Grind.{common_steps}
use Rattle.text.proofs.Keeping.{extends-full, extends-some}
use Rattle.text.proofs.keep.Goals as goal

pub returns-then-count-ge-LOOKED : goal.returns-then-count-ge-LOOKED
returns-then-count-ge-LOOKED c = extends-full _ _ c.if-count-ge-LOOKED.true

pub returns : goal.returns
returns c =
    extends-some _ _ _ _ c.if-count-ge-LOOKED.false c.min-more.ensures
    (take-put_mid c.args.reader.count _ c.args.reader.kept _ _ (grind (arith, common_steps)) (search rules)
    ∙ ap (λ xs. take c.args.reader.count c.args.reader.kept ++ xs) (grind (arith, common_steps)))
