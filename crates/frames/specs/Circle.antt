-- "F frames used in a circle": a frame and its index from OMF.
use Rattle.std.specs.Prelude.{ℕ, ◌+◌, ◌-◌, ◌%◌, ◌≤◌, ◌<◌}

-- 0 for OMF, one more for each frame on from there.
unfoldable pub index_of : (frames omf frame : ℕ) → ℕ
index_of frames omf frame = (frame + frames - omf) % frames

unfoldable pub frame_at : (frames omf index : ℕ) → ℕ
frame_at frames omf index = (omf + index) % frames

-- What the functions on the circle ask: OMF and a frame or index below F, and F far below the type's limit.
pub record Turn (frames omf place : ℕ) : Type 0 where
  pub omf_below : omf < frames
  pub below : place < frames
  pub few : frames ≤ 65536
