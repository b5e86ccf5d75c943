-- The frame numbers that the cache's entries have, on the circle and off it. Assumes nothing.
use mathlib.Core.Path.{◌≡◌, refl, ap, ap₂}
use mathlib.Core.Bool.{Bool, false, not, ◌&&◌}
use Prim.Native.Nat.{ℕ, ◌≤◌, ◌<◌}
use native.Mathlib.Omega.{arith}
use borrow.Author.Tests.{lt-ltb, le-ltb, ne_eqb}
use lib.Dec.{ltb}
use Rattle.rules.specs.Call.{Place}
use Rattle.rules.specs.Call.Place.{in_frame, in_archive}
use Rattle.frames.specs.Circle.{frame_at, index_of}
use Rattle.frames.proofs.Circle.{index-frame, frame_below}
use Rattle.cache.specs.declared.Cache.{Cache}
use Rattle.cache.specs.Steps.{archive_frame, is_below, is_dropped}
use Rattle.storage.specs.declared.State.{State}
use Rattle.storage.specs.Storage.{frame_number}
use Rattle.storage.specs.Steps.{used_state}

module _ (frames omf : ℕ) (few : frames ≤ 4096) (h : omf < frames) (m : ℕ) where
  -- a frame is told by its index, and the archive's number lies off the circle
  pub below-frame : (i : ℕ) → i < frames → is_below frames omf m (frame_at frames omf i) ≡ ltb i m
  unfolding is_below
  below-frame i b =
      ap₂ (λ (t : Bool) (k : ℕ). t && ltb k m) (lt-ltb (frame_at frames omf i) frames (frame_below frames omf h i)) (index-frame frames omf h i b)

  pub below-archive : is_below frames omf m archive_frame ≡ false
  unfolding is_below
  below-archive = ap (λ (t : Bool). t && ltb (index_of frames omf archive_frame) m) (le-ltb archive_frame frames (omega arith))

  pub dropped-frame : (i : ℕ) → i < frames → is_dropped frames omf m (frame_at frames omf i) ≡ not (ltb i m)
  unfolding is_dropped
  dropped-frame i b =
      ap₂ (λ (s t : Bool). not s && not t) (ne_eqb (frame_at frames omf i) archive_frame (λ e. omega (arith, frame_below frames omf h i))) (below-frame i b)

-- A use of the cache leaves the frames' numbers.
pub used-number : (s : State) (used : ℕ) (c : Cache) (o : Place) → frame_number (used_state s used c) o ≡ frame_number s o
unfolding frame_number used_state
used-number s used c (in_frame j) = refl
used-number s used c in_archive = refl
