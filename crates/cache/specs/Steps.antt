-- What each call does to the cache.
use Rattle.std.specs.Prelude.{ℕ, ◌*◌, Bool, cond, not, ◌&&◌, List, eqb, ltb, get_or, set, replicate}
use Rattle.rules.specs.Figure3.{set_of}
use Rattle.lists.specs.Lists.{rewrite}
use Rattle.lists.specs.Lines.{paste_line}
use Rattle.frames.specs.Circle.{index_of}
use Rattle.cache.specs.declared.Cache.{Cache}
use Rattle.cache.specs.Entries.{cache_of, way_taken, entry_taken}

-- The frame number of an entry whose line's most recent version is the archive's.
abbrev pub archive_frame : ℕ
archive_frame = 65535

-- RESET: "cache empty".
unfoldable pub emptied : Cache
emptied =
    record { held = replicate 32 0; origins = replicate 32 0; valid = replicate 32 0; bytes = replicate 512 0; last = replicate 16 0 }

-- A use of a line, by a read or a write, hit or miss: its way has the line with this frame and these bytes. "the way taken becomes
-- most recently used", "A hit moves its way to most recently used", "It is write-through".
unfoldable pub placed_in : Cache → (line frame : ℕ) → List ℕ → Cache
placed_in c line frame bytes =
    record {
      held = set c.held (entry_taken c line) line;
      origins = set c.origins (entry_taken c line) frame;
      valid = set c.valid (entry_taken c line) 1;
      bytes = paste_line c.bytes (16 * entry_taken c line) bytes;
      last = set c.last (set_of line) (way_taken c line);
    }

-- Whether a frame number lies on the circle with an index from OMF below n.
unfoldable pub is_below : (frames omf n frame : ℕ) → Bool
is_below frames omf n frame = ltb frame frames && ltb (index_of frames omf frame) n

-- Whether a rollback that keeps the frames with an index below `kept` drops an entry with this frame: "Rollback makes an entry
-- invalid exactly if its line's most recent version lay in a dropped frame." A number off the circle, which no well-formed cache
-- has, is dropped with them.
unfoldable pub is_dropped : (frames omf kept frame : ℕ) → Bool
is_dropped frames omf kept frame = not (eqb frame archive_frame) && not (is_below frames omf kept frame)

-- An entry's valid flag after the rollback, the flags of all entries, and the cache with them.
unfoldable pub flag_after : (frames omf kept frame flag : ℕ) → ℕ
flag_after frames omf kept frame flag = cond (is_dropped frames omf kept frame) 0 flag

unfoldable pub flags_after : (origins : List ℕ) → (frames omf kept : ℕ) → (valid : List ℕ) → List ℕ
flags_after origins frames omf kept valid = rewrite 32 (λ e flag. flag_after frames omf kept (get_or origins e 0) flag) valid

abbrev pub with_flags : Cache → (valid : List ℕ) → Cache
with_flags c valid = cache_of c.held c.origins valid c.bytes c.last

unfoldable pub forgotten : Cache → (frames omf kept : ℕ) → Cache
forgotten c frames omf kept = with_flags c (flags_after c.origins frames omf kept c.valid)

-- The frame number of an entry after an advance over k frames: "Lines collected by ADVANCE keep their entries and count as archive."
unfoldable pub frame_after : (frames omf k frame : ℕ) → ℕ
frame_after frames omf k frame = cond (is_below frames omf k frame) archive_frame frame

-- The frame numbers of all entries then, and the cache with them.
unfoldable pub frames_after : (frames omf k : ℕ) → (origins : List ℕ) → List ℕ
frames_after frames omf k origins = rewrite 32 (λ e frame. frame_after frames omf k frame) origins

abbrev pub with_origins : Cache → (origins : List ℕ) → Cache
with_origins c origins = cache_of c.held origins c.valid c.bytes c.last

unfoldable pub advanced_cache : Cache → (frames omf k : ℕ) → Cache
advanced_cache c frames omf k = with_origins c (frames_after frames omf k c.origins)
