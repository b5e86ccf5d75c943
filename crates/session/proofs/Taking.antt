-- What `feed` puts lies within the output, which is as long as it was. Assumes nothing.
use mathlib.Core.Path.{◌≡◌}
use Prim.Native.Nat.{ℕ, ◌≤◌}
use native.Mathlib.Omega.{arith}
use lib.ListN.{length}
use Rattle.text.specs.Parts.{Text}
use Rattle.text.proofs.Putting.{puts-length, puts-few}
use Rattle.store.specs.Shown.{Lent}
use Rattle.session.specs.declared.Runner.{Runner}
use Rattle.session.specs.Running.{Taken}

module _ {r s : Runner} {m n : Lent} {chunk first out : Text} {used filled : ℕ} (w : Taken r m chunk first s n out used filled) where
  pub taken-room : length out ≡ length first
  taken-room = puts-length first 0 w.said out filled (omega (arith, w.fits)) w.puts

  pub taken-few : filled ≤ length out
  taken-few = puts-few first 0 w.said out filled (omega (arith, w.fits)) w.puts
