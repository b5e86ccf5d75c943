-- Where the newest version of a line stands, up to the frame of an index, and its bytes.
use Rattle.std.specs.Prelude.{ℕ, ◌-◌, ◌*◌, ◌/◌, ◌%◌, ◌≤◌, ◌<◌, ◌≡◌, Bool, cond, not, ◌&&◌, List, ltb, eqb, length, get_or, Option, Some, None}
use Rattle.rules.specs.Line.{Line}
use Rattle.rules.specs.Call as call
use Rattle.rules.specs.Call.Place.{in_frame, in_archive}
use Rattle.rules.specs.Call.Origin.{from_cache, from, empty}
use Rattle.frames.specs.Circle.{frame_at}
use Rattle.written.specs.Bits.{Written, newest_from}
use Rattle.pages.specs.Lines.{page_line, archive_line, AsksPage, AsksArchive}
use Rattle.pages.specs.Table.{entry_at, AsksTable}
use Rattle.cache.specs.declared.Cache.{Cache}
use Rattle.cache.specs.Entries.{bytes_in, hit_in}
use Rattle.cache.specs.Steps.{archive_frame}
use Rattle.versions.specs.declared.Origin as code
use Rattle.versions.specs.declared.Origin.TheVariants as origin
use Rattle.versions.specs.declared.Version.{Version}

-- What the table has for a line in the frame of an index.
unfoldable pub page_of : (lines frames omf : ℕ) → (table : List ℕ) → (index line : ℕ) → ℕ
page_of lines frames omf table i l = get_or table (entry_at lines (frame_at frames omf i) (l / 8)) 0

-- The page in which a version stands that a search found: the one that the table names, or else none, and it stands in the archive. A number that is
-- no page's, which no well-formed table names, counts as none.
unfoldable pub spot_of : (lines frames omf pages : ℕ) → (table : List ℕ) → (line : ℕ) → Option ℕ → Option ℕ
spot_of lines frames omf pages table l (Some i) =
    cond (ltb (page_of lines frames omf table i l) pages) (Some (page_of lines frames omf table i l)) None
spot_of lines frames omf pages table l None = None

-- The line that stands there.
unfoldable pub content_of : (archive pool : List ℕ) → (line : ℕ) → Option ℕ → Line
content_of archive pool l (Some p) = page_line pool p (l % 8)
content_of archive pool l None = archive_line archive l

-- The frame's number, as the cache has it,
unfoldable pub number_of : (frames omf : ℕ) → Option ℕ → ℕ
number_of frames omf (Some i) = frame_at frames omf i
number_of frames omf None = archive_frame

-- and READ's origin: "a frame given by how many marks back it lies (0 is CMF), or the archive".
unfoldable pub back_in : (live : ℕ) → Option ℕ → code.Origin
back_in live (Some i) = origin.Frame (live - 1 - i)
back_in live None = origin.Archive

-- The papers' origin for each case of the answer's.
unfoldable pub origin_of : code.Origin → call.Origin
origin_of origin.Cache = from_cache
origin_of (origin.Frame back) = from (in_frame back)
origin_of origin.Archive = from in_archive
origin_of origin.Empty = empty

-- Whether no surviving write has touched a line (request 2.3): its version is the archive's, and it was not collected.
unfoldable pub is_empty : (collected : Bool) → (frame : ℕ) → Bool
is_empty collected frame = eqb frame archive_frame && not collected

-- The origin that a read names, cached or not.
unfoldable pub empty_or : (collected : Bool) → (frame : ℕ) → code.Origin → code.Origin
empty_or collected frame found = cond (is_empty collected frame) origin.Empty found

-- The most recent version of a line among the live frames and the archive,
unfoldable pub newest_of : Written → (pages live : ℕ) → (archive pool table : List ℕ) → (line : ℕ) → Version
newest_of w pages live archive pool table l =
    let f = newest_from w l (live - 1) in
    record {
      content = content_of archive pool l (spot_of w.lines w.frames w.omf pages table l f);
      frame = number_of w.frames w.omf f;
      origin = back_in live f;
    }

-- or as an entry of the cache has it.
unfoldable pub latest_from : (held-frames bytes : List ℕ) → Version → Option ℕ → Version
latest_from frames bytes other (Some e) = record { content = bytes_in bytes e; frame = get_or frames e 0; origin = origin.Cache }
latest_from frames bytes other None = other

unfoldable pub latest_held : (held-lines held-frames valid bytes : List ℕ) → Written → (pages live : ℕ) → (archive pool table : List ℕ) → (line : ℕ) → Version
latest_held lines frames valid bytes w pages live archive pool table l =
    latest_from frames bytes (newest_of w pages live archive pool table l) (hit_in lines valid l)

abbrev pub latest_of : Cache → Written → (pages live : ℕ) → (archive pool table : List ℕ) → (line : ℕ) → Version
latest_of c w pages live archive pool table l =
    latest_held c.held c.origins c.valid c.bytes w pages live archive pool table l

-- What the functions ask of the numbers and the lent lengths; the store tests it.
pub record AsksSpot (lines frames omf line : ℕ) (found : Option ℕ) (long : ℕ) : Type 0 where
  pub lines_by : lines % 8 ≡ 0
  pub lines_few : lines ≤ 4096
  pub frames_few : frames ≤ 4096
  pub omf_below : omf < frames
  pub line_below : line < lines
  pub index_below : (i : ℕ) → found ≡ Some i → i < frames
  pub table_long : frames * (lines / 8) ≤ long

-- and where a version stands.
pub record AsksContent (line : ℕ) (spot : Option ℕ) (archive pool : ℕ) : Type 0 where
  pub page : (p : ℕ) → spot ≡ Some p → AsksPage p (line % 8) pool
  pub archived : AsksArchive line archive

-- What is asked to find a line's newest version among the live frames.
pub record AsksNewest (w : Written) (pages live line : ℕ) (archive pool table : List ℕ) : Type 0 where
  pub asks : AsksTable w table
  pub live_some : 0 < live
  pub live_within : live ≤ w.frames
  pub line_below : line < w.lines
  pub pages_few : pages ≤ 4096
  pub archive_long : 16 * w.lines ≤ length archive
  pub pool_long : 128 * pages ≤ length pool
