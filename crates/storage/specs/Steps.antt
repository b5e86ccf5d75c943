-- What each call leaves of state and lent memory.
use Rattle.std.specs.Prelude.{ℕ, ◌+◌, ◌-◌, ◌*◌, ◌/◌, ◌%◌, ◌≤◌, ◌<◌, min, ◌≡◌, List, cond, length, get_or, set}
use Rattle.rules.specs.Line.{Line, edit, line_of, offset_of}
use Rattle.frames.specs.Circle.{frame_at}
use Rattle.written.specs.Bits.{written_of, written_at, Asks}
use Rattle.written.specs.Steps.{RolledBack, with_written, blanked, lowered}
use Rattle.lists.specs.Lines.{AsksBytes}
use Rattle.pages.specs.Lines.{with_page_line}
use Rattle.pages.specs.Table.{place_at, needed_at, entry_at, AsksEntry}
use Rattle.pages.specs.Ring.{nth_page, index_at, Leading, Leads}
use Rattle.versions.specs.Newest.{latest_of, AsksNewest}
use Rattle.versions.specs.Steps.{zeroed, folded_pages, flagged_pages, cleared_pages, AsksPut}
use Rattle.pages.specs.Flags.{unflagged}
use Rattle.cache.specs.declared.Cache.{Cache}
use Rattle.cache.specs.Steps.{emptied, placed_in, forgotten, advanced_cache}
use Rattle.storage.specs.declared.Registers.{Registers}
use Rattle.storage.specs.declared.State.{State}
use Rattle.storage.specs.Storage.{Storage, Lent, memory_of, state_of, shape_at, ring_at, live_in, written_in, latest_in, newest_frame, WellStore}

-- RESET: "one live frame .., cache empty".
unfoldable pub fresh_state : (lines frames pages : ℕ) → State
fresh_state lines frames pages =
    record {
      registers = record { lines = lines; frames = frames; pages = pages; cmf = 0; omf = 0; tag = 0; first = 0; used = 0 };
      cache = emptied;
    }

-- What it leaves in all: "archive all zero .., no written bits, all pages free", and no line collected (request 2.3). Pool, table and the pages'
-- owners stay as they are: with no written bit nothing in them counts.
pub record ResetTo (lines frames pages : ℕ) (archive groups owners history : List ℕ) (t : State) (archive-after groups-after owners-after history-after : List ℕ) : Type 0 where
  pub state : t ≡ fresh_state lines frames pages
  pub archive_is : archive-after ≡ zeroed lines archive
  pub groups_is : groups-after ≡ blanked lines frames groups
  pub owners_is : owners-after ≡ unflagged pages lines owners
  pub history_is : history-after ≡ set history 0 65535

-- Other registers, tag and ring; the settings stay.
abbrev pub registers_with : Registers → (cmf omf tag first used : ℕ) → Registers
registers_with r cmf omf tag first used =
    record { lines = r.lines; frames = r.frames; pages = r.pages; cmf = cmf; omf = omf; tag = tag; first = first; used = used }

-- MARK: "opens the next frame".
abbrev pub marked_registers : Registers → Registers
marked_registers r = registers_with r ((r.cmf + 1) % r.frames) r.omf r.tag r.first r.used

unfoldable pub marked_state : State → State
marked_state s = state_of (marked_registers s.registers) s.cache

-- On a ring the pages of the frames with an index below a limit come first; how many they are, exact where the owners' indexes never fall.
abbrev pub PagesBelow : Registers → (owners : List ℕ) → (limit n : ℕ) → Type 0
PagesBelow r owners limit n = Leading (ring_at r).used (index_at r.frames r.omf r.pages (ring_at r).first owners) limit n

-- ROLLBACK(k): "drops the k newest frames", with the tag that the history has next and the pages that are left.
abbrev pub rolled_registers : Registers → (k tag used : ℕ) → Registers
rolled_registers r k tag used = registers_with r ((r.cmf + r.frames - k) % r.frames) r.omf tag r.first used

unfoldable pub rolled_state : State → (k tag used : ℕ) → State
rolled_state s k tag used =
    state_of (rolled_registers s.registers k tag used) (forgotten s.cache s.registers.frames s.registers.omf (live_in s - k))

-- What it leaves in all: the state with the next tag and the pages of the frames that stay, and the groups and the history that go with it.
-- The tag handed to the history is the state's, cut to its 8 bits; which tag is next is the history's choice.
pub record RolledTo (s : State) (groups owners history : List ℕ) (k : ℕ) (t : State) (groups-after history-after : List ℕ) : Type 0 where
  pub state : t ≡ rolled_state s k t.registers.tag t.registers.used
  pub pages : PagesBelow s.registers owners (live_in s - k) t.registers.used
  pub memory :
      RolledBack (written_of s.registers.lines s.registers.frames s.registers.omf groups history) (s.registers.tag % 256) (live_in s - k)
      groups-after history-after t.registers.tag

-- The ring's first pages up to one of a frame with an index from k on, on any storage; on a ring they are those of the k oldest frames.
abbrev pub FirstPages : Registers → (owners : List ℕ) → (k n : ℕ) → Type 0
FirstPages r owners k n = Leads (ring_at r).used (index_at r.frames r.omf r.pages (ring_at r).first owners) k n

-- ADVANCE(k): the k oldest frames are free, and entries of their lines "count as archive".
-- The ring starts behind the pages that are free.
abbrev pub advanced_registers : Registers → (k gone : ℕ) → Registers
advanced_registers r k gone =
    registers_with r r.cmf ((r.omf + k) % r.frames) r.tag (nth_page r.pages (ring_at r).first gone) ((ring_at r).used - gone)

unfoldable pub advanced_state : State → (k gone : ℕ) → State
advanced_state s k gone =
    state_of (advanced_registers s.registers k gone) (advanced_cache s.cache s.registers.frames s.registers.omf k)

-- What it leaves in all: the state, the archive with the versions that these pages have, the groups without their bits, the flags of the lines that
-- they have, and the history.
pub record AdvancedTo (s : State) (archive pool groups owners history : List ℕ) (k : ℕ) (t : State) (archive-after groups-after owners-after history-after : List ℕ) : Type 0 where
  pub gone : ℕ
  pub pages : FirstPages s.registers owners k gone
  pub state : t ≡ advanced_state s k gone
  pub archive_is :
      archive-after
      ≡ folded_pages (written_of s.registers.lines s.registers.frames s.registers.omf groups history) s.registers.pages (ring_at s.registers).first pool owners
      gone archive
  pub groups_is : groups-after ≡ cleared_pages s.registers.lines s.registers.pages (ring_at s.registers).first owners gone groups
  pub owners_is :
      owners-after
      ≡ flagged_pages (written_of s.registers.lines s.registers.frames s.registers.omf groups history) s.registers.pages (ring_at s.registers).first owners gone
  pub history_is : history-after ≡ lowered k history

-- READ and WRITE: the cache after a use, and after a WRITE the pages in use.
abbrev pub given_registers : Registers → (used : ℕ) → Registers
given_registers r used = registers_with r r.cmf r.omf r.tag r.first used

unfoldable pub used_state : State → (used : ℕ) → Cache → State
used_state s used cache = state_of (given_registers s.registers used) cache

-- READ: "A hit moves its way to most recently used. A miss, of a read or a write, takes ..": the way taken has the line's most recent
-- version.
unfoldable pub read_state : Storage → (line : ℕ) → State
read_state x l = used_state x.state x.state.registers.used (placed_in x.state.cache l (newest_frame x l) (latest_in x l))

-- The registers stay on any storage, and the cache has the line on storage that CHECK passes.
abbrev pub ReadTo : Storage → (line : ℕ) → State → Type 0
ReadTo x l t = (t.registers ≡ x.state.registers) × (WellStore x → t ≡ read_state x l)

-- WRITE: the line's bytes after it. "its most recent version is copied there first".
unfoldable pub content_after : Storage → (width address value : ℕ) → Line
content_after x w a v = edit w (offset_of a) v (latest_in x (line_of a))

-- The place of the line's block in CMF, whose index from OMF is one less than the live frames, and where the table has its page.
abbrev pub current_frame : Storage → ℕ
current_frame x = frame_at x.state.registers.frames x.state.registers.omf (live_in x.state - 1)

abbrev pub current_place : Storage → (line : ℕ) → ℕ
current_place x l = place_at (current_frame x) (l / 8)

abbrev pub current_entry : Storage → (line : ℕ) → ℕ
current_entry x l = entry_at x.state.registers.lines (current_frame x) (l / 8)

-- The page that the line goes to, and how many are in use then: the place's own where it is needed already, and else the one behind the
-- segment.
unfoldable pub page_taken : Storage → (line : ℕ) → ℕ
page_taken x l =
    cond (needed_at (written_in x) (current_place x l)) (get_or x.memory.table (current_entry x l) 0)
    (nth_page x.state.registers.pages x.state.registers.first x.state.registers.used)

unfoldable pub used_after : Storage → (line : ℕ) → ℕ
used_after x l = cond (needed_at (written_in x) (current_place x l)) x.state.registers.used (x.state.registers.used + 1)

-- What it leaves in all, on storage that CHECK passes.
pub record WroteTo (x : Storage) (width address value : ℕ) (t : Storage) : Type 0 where
  pub state :
      t.state
      ≡ used_state x.state (used_after x (line_of address))
      (placed_in x.state.cache (line_of address) x.state.registers.cmf (content_after x width address value))
  pub memory :
      t.memory
      ≡ memory_of x.memory.archive (with_page_line x.memory.pool (page_taken x (line_of address)) (line_of address % 8) (content_after x width address value))
      (with_written (written_in x) x.state.registers.tag (line_of address) (live_in x.state - 1))
      (set x.memory.table (current_entry x (line_of address)) (page_taken x (line_of address)))
      (set x.memory.owners (page_taken x (line_of address)) (current_place x (line_of address))) x.memory.history

-- What is left once a page is found, on any storage: the version is put in the page.
pub record Put (x : Storage) (width address value live page : ℕ) (cache : Cache) (memory : Lent) : Type 0 where
  pub content : Line
  pub content_is :
      content
      ≡ edit width (offset_of address) value
      (latest_of x.state.cache (written_in x) x.state.registers.pages live x.memory.archive x.memory.pool x.memory.table (line_of address)).content
  pub content_long : length content ≡ 16
  pub cache_is : cache ≡ placed_in x.state.cache (line_of address) x.state.registers.cmf content
  pub memory_is :
      memory
      ≡ memory_of x.memory.archive (with_page_line x.memory.pool page (line_of address % 8) content)
      (with_written (written_in x) (x.state.registers.tag % 256) (line_of address) (live - 1))
      (set x.memory.table (entry_at x.state.registers.lines (frame_at x.state.registers.frames x.state.registers.omf (live - 1)) ((line_of address) / 8)) page)
      (set x.memory.owners page (place_at (frame_at x.state.registers.frames x.state.registers.omf (live - 1)) (line_of address / 8))) x.memory.history

-- What is asked for that: once WRITE is admitted and has its page.
pub record AsksWrite (x : Storage) (width address live page : ℕ) : Type 0 where
  pub newest : AsksNewest (written_in x) x.state.registers.pages live (line_of address) x.memory.archive x.memory.pool x.memory.table
  pub put :
      AsksPut (written_in x) x.state.registers.pages (x.state.registers.tag % 256) (line_of address) (live - 1) page x.memory.pool x.memory.table x.memory.owners
  pub bytes : AsksBytes width (offset_of address)
  pub cmf_below : x.state.registers.cmf < x.state.registers.frames

-- WRITE's short way, to a line that an entry of the cache holds with CMF as its frame. Its page is the table's; a number past the pool, which
-- no well-formed table names, counts as the last page.
abbrev pub named_page : Registers → (table : List ℕ) → (line : ℕ) → ℕ
named_page r table l = min (get_or table (entry_at r.lines r.cmf (l / 8)) 0) (r.pages - 1)

-- What is asked for it.
pub record AsksEdit (r : Registers) (width address entry : ℕ) (pool groups table history : List ℕ) : Type 0 where
  pub entry_few : entry < 32
  pub bytes : AsksBytes width (offset_of address)
  pub named : AsksEntry r.lines r.cmf (line_of address / 8) (length table)
  pub pages_some : 1 ≤ r.pages
  pub pages_few : r.pages ≤ 4096
  pub pool_long : 128 * r.pages ≤ length pool
  pub written : Asks (written_at (shape_at r) groups history) (line_of address) r.cmf
