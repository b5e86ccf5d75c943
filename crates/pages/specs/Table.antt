-- Places of pages, and which of them are needed. Nothing is cleared at a rollback or a reset: an entry of the table whose page has another
-- owner, or lies outside the segment, is stale.
use Rattle.std.specs.Prelude.{ℕ, ◌+◌, ◌*◌, ◌/◌, ◌%◌, ◌≤◌, ◌<◌, ◌≡◌, Bool, ◌&&◌, List, ltb, length}
use Rattle.rules.specs.Seen.{needs}
use Rattle.frames.specs.Circle.{index_of}
use Rattle.written.specs.Bits.{Written, AsksWritten, effective}

-- "A page holds 8 neighbouring lines of one frame": a place is a frame and a block of 8 lines, frame × 512 + block. An owner is the place
-- of its page.
abbrev pub blocks_of : Written → ℕ
blocks_of w = w.lines / 8

abbrev pub places_of : Written → ℕ
places_of w = w.frames * 512

abbrev pub place_at : (frame block : ℕ) → ℕ
place_at f b = f * 512 + b

-- Where the table has the page of a frame and block, and of a place: frame after frame.
abbrev pub entry_at : (lines frame block : ℕ) → ℕ
entry_at lines f b = f * (lines / 8) + b

abbrev pub entries_of : Written → ℕ
entries_of w = w.frames * blocks_of w

abbrev pub entry_of : Written → ℕ → ℕ
entry_of w x = entry_at w.lines (x / 512) (x % 512)

-- "A page of a live frame is needed if a line in it has its written bit set." A number past the blocks is no place. (That only live frames
-- have effective bits is another clause of well-formedness.)
unfoldable pub needed_at : Written → ℕ → Bool
needed_at w x = ltb (x % 512) (blocks_of w) && needs (effective w (index_of w.frames w.omf (x / 512))) (x % 512)

-- What the functions ask of the numbers and the lent lengths; the store tests it.
pub record AsksEntry (lines frame block long : ℕ) : Type 0 where
  pub lines_few : lines ≤ 4096
  pub frame_few : frame ≤ 4096
  pub block_few : block ≤ 4096
  pub entry_below : entry_at lines frame block < long

pub record AsksTable (w : Written) (table : List ℕ) : Type 0 where
  pub lent : AsksWritten w
  pub lines_by : w.lines % 8 ≡ 0
  pub lines_from : 8 ≤ w.lines
  pub table_long : entries_of w ≤ length table
