-- Written bits in groups of sixteen with their tag, and the rollback history that masks them. Quotations are of document 01.
use Rattle.std.specs.Prelude.{ℕ, zero, suc, ◌+◌, ◌-◌, ◌*◌, ◌/◌, ◌%◌, ◌≤◌, ◌<◌, min, ◌≡◌, Bool, ◌&&◌, List, leb, ltb, length, get_or, Option}
use Rattle.rules.specs.Seen.{any}
use Rattle.frames.specs.Circle.{index_of, frame_at}
use Rattle.numbers.specs.Digits.{digit, bit, range_of}
use Rattle.numbers.specs.Search.{greatest}
use Rattle.written.specs.declared.Shape.{Shape}

-- The lent lists with what places them: the lines, the circle of frames and OMF.
pub record Written : Type 0 where
  pub lines : ℕ
  pub frames : ℕ
  pub omf : ℕ
  pub groups : List ℕ
  pub history : List ℕ

abbrev pub written_of : (lines frames omf : ℕ) → (groups history : List ℕ) → Written
written_of lines frames omf groups history =
    record { lines = lines; frames = frames; omf = omf; groups = groups; history = history }

abbrev pub written_at : Shape → (groups history : List ℕ) → Written
written_at shape groups history = written_of shape.lines shape.frames shape.omf groups history

-- "16 frames in a row form a working area." "Sixteen written bits of one line are kept together": the place of a group, area after area.
abbrev pub place_of : (lines area line : ℕ) → ℕ
place_of lines area line = area * lines + line

-- "Each group of bits carries an 8-bit tag": above the sixteen bits.
abbrev pub tag_of : ℕ → ℕ
tag_of g = g / 65536 % 256

abbrev pub tagged : (tag bits : ℕ) → ℕ
tagged tag bits = tag * 65536 + bits

-- The bound that the history has for a group's tag: of its bits, those of frames with an index from OMF below it stand. 65535 is no
-- rollback since.
abbrev pub bound_of : List ℕ → ℕ → ℕ
bound_of history g = get_or history (tag_of g) 0

-- "stale bits are cleared when read, by the rollback history": a bit is effective if it is set and stands.
unfoldable pub standing : (g position index bound : ℕ) → Bool
standing g position index bound = bit g position && ltb index bound

unfoldable pub effective : Written → (index line : ℕ) → Bool
effective w i l =
    let f = frame_at w.frames w.omf i in
    let g = get_or w.groups (place_of w.lines (f / 16) l) 0 in
    standing g (f % 16) i (bound_of w.history g)

-- The newest index up to start at which the line has an effective bit.
unfoldable pub newest_from : Written → (line start : ℕ) → Option ℕ
newest_from w l start = greatest (start + 1) (λ i. effective w i l)

-- How far down from an index its working area goes on: to the area's first frame, or to OMF.
unfoldable pub down_of : (frames omf index : ℕ) → ℕ
down_of frames omf i = min (frame_at frames omf i % 16) i

-- The newest standing bit of a group from a position down, where the position's index is known.
unfoldable pub newest_run : (g bound position index : ℕ) → Option ℕ
newest_run g bound p i = greatest (i + 1) (λ k. leb (i - min p i) k && standing g (k + p - i) k bound)

-- The newest index of an index's area, up to it, at which the line has an effective bit.
unfoldable pub newest_in_area : Written → (line index : ℕ) → Option ℕ
newest_in_area w l i = greatest (i + 1) (λ k. leb (i - down_of w.frames w.omf i) k && effective w k l)

-- How far up from an index its working area goes on: to the area's last frame, or to the end of a window.
unfoldable pub up_of : (frames omf index end : ℕ) → ℕ
up_of frames omf i end = min (16 - frame_at frames omf i % 16) (end - i)

-- Some number from one end to the other passes the test.
unfoldable pub any_from : (from end : ℕ) → (ℕ → Bool) → Bool
any_from from end f = any end (λ i. leb from i && f i)

-- Whether a run of one group has a standing bit, from a position up, where the position's index is known.
unfoldable pub stands_in : (g bound position index up : ℕ) → Bool
stands_in g bound p i up = any_from i (i + up) (λ k. standing g (k + p - i) k bound)

-- Whether a line has an effective bit in the working area of an index, from it up to the end of a window.
unfoldable pub run_has : Written → (line index end : ℕ) → Bool
run_has w l i end = any_from i (i + up_of w.frames w.omf i end) (λ k. effective w k l)

-- Whether one of a block's 8 lines has an effective bit in a window of indexes.
unfoldable pub block_has : Written → (block from end : ℕ) → Bool
block_has w block from end = any 8 (λ n. any_from from end (λ i. effective w i (block * 8 + n)))

-- A number of each of n neighbouring groups, added up: 0 only where each is.
unfoldable pub sum_from : (f : ℕ → ℕ) → (groups : List ℕ) → (at n : ℕ) → ℕ
sum_from f groups at zero = 0
sum_from f groups at (suc n) = sum_from f groups at n + f (get_or groups (at + n) 0)

-- How many of a block's 8 lines have their bit of a frame set, effective or stale.
unfoldable pub set_in : (lines : ℕ) → (groups : List ℕ) → (frame block : ℕ) → ℕ
set_in lines groups f block = sum_from (λ g. digit g (f % 16)) groups (place_of lines (f / 16) (block * 8)) 8

-- The index of an area's first frame.
unfoldable pub first_index : (frames omf area : ℕ) → ℕ
first_index frames omf area = index_of frames omf (area * 16)

-- The bits of a group, in an area, whose index from OMF lies in a window. The first u frames of the area have the indexes from s on; the
-- others, where OMF lies inside the area, those from 0 on.
unfoldable pub before_wrap : (g s u from end : ℕ) → ℕ
before_wrap g s u from end = range_of g (min u (from - s)) (min u (end - s))

unfoldable pub after_wrap : (g u from end : ℕ) → ℕ
after_wrap g u from end = range_of g (min 16 (from + u)) (min 16 (end + u))

-- The two together, by s and u, and by the area.
unfoldable pub cut_of : (g s u from end : ℕ) → ℕ
cut_of g s u from end = before_wrap g s u from end + after_wrap g u from end

unfoldable pub window_of : (frames omf area g from end : ℕ) → ℕ
window_of frames omf area g from end =
    let s = first_index frames omf area in
    cut_of g s (min 16 (frames - s)) from end

-- What the functions ask of the numbers and the lent lengths; the store tests it.
pub record AsksWritten (w : Written) : Type 0 where
  pub lines_some : 0 < w.lines
  pub lines_few : w.lines ≤ 4096
  pub frames_by : w.frames % 16 ≡ 0
  pub frames_few : w.frames ≤ 4096
  pub omf_below : w.omf < w.frames
  pub groups_long : w.frames / 16 * w.lines ≤ length w.groups
  pub history_long : 256 ≤ length w.history

-- and of a line and an index besides.
pub record Asks (w : Written) (line index : ℕ) : Type 0 where
  pub lent : AsksWritten w
  pub line_below : line < w.lines
  pub index_below : index < w.frames

-- A group's place, far below the type's limit.
pub record Near (lines area line : ℕ) : Type 0 where
  pub lines_few : lines ≤ 4096
  pub area_few : area ≤ 4096
  pub line_few : line ≤ 4096

-- What the test of a block asks: its lines below L, and the window's end within the circle.
pub record AsksBlock (w : Written) (block end : ℕ) : Type 0 where
  pub lent : AsksWritten w
  pub block_below : block * 8 + 8 ≤ w.lines
  pub end_within : end ≤ w.frames

-- What counting a block's bits of a frame asks.
pub record AsksSet (lines frame block long : ℕ) : Type 0 where
  pub near : Near lines (frame / 16) (block * 8 + 7)
  pub within : place_of lines (frame / 16) (block * 8) + 8 ≤ long
