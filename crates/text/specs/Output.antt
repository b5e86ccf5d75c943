-- Text put into a buffer.
use Rattle.std.specs.Prelude.{ℕ, ◌+◌, ◌≡◌, length}
use Rattle.std.proofs.Math.Seq.{paste}
use Rattle.text.specs.Parts.{Text}

-- The buffer after some text was put into it at a place, all else as it was, and the place behind the text.
pub record Puts (before : Text) (at : ℕ) (text after : Text) (behind : ℕ) : Type 0 where
  pub ends : behind ≡ at + length text
  pub bytes : after ≡ paste before at text (length text)
