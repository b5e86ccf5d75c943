-- The clauses of well-formedness that a function decides by itself, and what is asked of the numbers and the lent lengths.
use Rattle.std.specs.Prelude.{ℕ, ◌+◌, ◌*◌, ◌%◌, ◌≤◌, ◌<◌, ◌≡◌, true, false, List, length, get_or}
use Rattle.rules.specs.Line.{Line, zeros}
use Rattle.cache.specs.declared.Cache.{Cache}
use Rattle.cache.specs.Entries.{held_line}
use Rattle.pages.specs.Table.{places_of, entry_of, needed_at, AsksTable}
use Rattle.pages.specs.Ring.{nth_page, index_at, Backed, Paged}
use Rattle.pages.specs.Lines.{archive_line}
use Rattle.pages.specs.Flags.{collected_at}
use Rattle.versions.specs.Newest.{newest_of}
use Rattle.written.specs.Bits.{Written, AsksWritten}

-- A page whose owner is a needed place for which the table has the page. (Shut, so that the lists stand bare in it.)
unfoldable pub BackedIn : Written → (table owners : List ℕ) → ℕ → Type 0
BackedIn w table owners p = Backed (needed_at w) (places_of w) (λ x. get_or table (entry_of w x) 0) (λ q. get_or owners q 0) p

-- The ring as CHECK tests it: position by position,
pub record InOrder (w : Written) (pages first used : ℕ) (table owners : List ℕ) : Type 0 where
  pub backed : (i : ℕ) → i < used → BackedIn w table owners (nth_page pages first i)
  pub steps : (i : ℕ) → i + 1 < used → index_at w.frames w.omf pages first owners i ≤ index_at w.frames w.omf pages first owners (i + 1)

-- and place by place.
unfoldable pub PagedIn : Written → (pages first used : ℕ) → (table owners : List ℕ) → ℕ → Type 0
PagedIn w pages first used table owners x = needed_at w x ≡ true → Paged pages first used (λ y. get_or table (entry_of w y) 0) (λ q. get_or owners q 0) x

abbrev pub AllPaged : Written → (pages first used : ℕ) → (table owners : List ℕ) → Type 0
AllPaged w pages first used table owners = (x : ℕ) → x < places_of w → PagedIn w pages first used table owners x

-- A set of the cache whose valid entries are in it and below L, and not both with one line.
pub record SetWell (lines : ℕ) (c : Cache) (set : ℕ) : Type 0 where
  pub first : get_or c.valid (2 * set) 0 ≡ 1 → (held_line c (2 * set) % 16 ≡ set) × (held_line c (2 * set) < lines)
  pub second : get_or c.valid (2 * set + 1) 0 ≡ 1 → (held_line c (2 * set + 1) % 16 ≡ set) × (held_line c (2 * set + 1) < lines)
  pub once : get_or c.valid (2 * set) 0 ≡ 1 → get_or c.valid (2 * set + 1) 0 ≡ 1 → held_line c (2 * set) ≡ held_line c (2 * set + 1) → ⊥

-- A line below L with the frame and the bytes of its most recent version in memory.
abbrev pub RecentIn : Written → (pages live : ℕ) → (archive pool table : List ℕ) → (line frame : ℕ) → Line → Type 0
RecentIn w pages live archive pool table l frame bytes =
    (l < w.lines) × (bytes ≡ (newest_of w pages live archive pool table l).content) × (frame ≡ (newest_of w pages live archive pool table l).frame)

-- A line that was not collected is zero in the archive: else a read that finds no version of it would give another value than the 0 of request 2.3,
-- at once or, where the line is written in a live frame, after a rollback.
unfoldable pub CollectedOrZero : (pages : ℕ) → (archive owners : List ℕ) → (line : ℕ) → Type 0
CollectedOrZero pages archive owners l = collected_at pages owners l ≡ false → archive_line archive l ≡ zeros

abbrev pub WellArchive : (lines pages : ℕ) → (archive owners : List ℕ) → Type 0
WellArchive lines pages archive owners = (l : ℕ) → l < lines → CollectedOrZero pages archive owners l

-- The first n elements are bytes.
abbrev pub Bytes : ℕ → List ℕ → Type 0
Bytes n xs = (i : ℕ) → i < n → get_or xs i 0 < 256

-- What is asked to decide the written bits' share,
pub record AsksBits (w : Written) (live : ℕ) : Type 0 where
  pub lent : AsksWritten w
  pub lines_by : w.lines % 8 ≡ 0
  pub live_within : live ≤ w.frames

-- and the cache's.
pub record AsksRecent (w : Written) (pages live : ℕ) (archive pool table : List ℕ) : Type 0 where
  pub asks : AsksTable w table
  pub live_some : 0 < live
  pub live_within : live ≤ w.frames
  pub pages_few : pages ≤ 4096
  pub archive_long : 16 * w.lines ≤ length archive
  pub pool_long : 128 * pages ≤ length pool
