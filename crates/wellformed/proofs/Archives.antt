-- Lines that were not collected are zero in the archive, in the form in which the code has the tests. Assumes nothing.
use mathlib.Core.Path.{◌≡◌, sym, ◌∙◌}
use mathlib.Core.Bool.{Bool, false}
use mathlib.Core.List.{List}
use Prim.Native.Nat.{ℕ}
use Rattle.rules.specs.Line.{Line, zeros}
use Rattle.pages.specs.Lines.{archive_line}
use Rattle.pages.specs.Flags.{collected_at}
use Rattle.wellformed.specs.Decision.{Decides}
use Rattle.wellformed.specs.Parts.{CollectedOrZero}

module _ (pages : ℕ) (archive owners : List ℕ) (l : ℕ) (r : Bool) (e : r ≡ collected_at pages owners l) where
  pub zero-passes : r ≡ false → (x y : Line) (s : Bool) → x ≡ archive_line archive l → y ≡ zeros → Decides s (x ≡ y) → Decides s (CollectedOrZero pages archive owners l)
  unfolding CollectedOrZero
  zero-passes t x y s ex ey d =
      record {
        only = λ p f. sym ex ∙ (d.only p ∙ ey);
        always = λ b. d.always (ex ∙ (b (sym e ∙ t) ∙ sym ey));
      }
