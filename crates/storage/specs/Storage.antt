-- The store's storage: the state and the lent memory, what they show of Figures 2 and 3, and when they are well-formed.
use Rattle.std.specs.Prelude.{ℕ, ◌-◌, ◌%◌, min, ◌≡◌, Bool, true, cond, ◌&&◌, List, ltb, length, drop}
use Rattle.std.proofs.Math.Option.{Option, none, some}
use Rattle.rules.specs.Settings.{Settings, Pieces, enough}
use Rattle.rules.specs.Line.{Line, IsLine, zeros}
use Rattle.rules.specs.Call.{Place}
use Rattle.rules.specs.Call.Place.{in_frame, in_archive}
use Rattle.rules.specs.Registers as rules
use Rattle.rules.specs.Registers.{live_frames, state_fits}
use Rattle.rules.specs.Figure2.{version_in, found_in, is_written}
use Rattle.rules.specs.Figure3.{WellCache}
use Rattle.rules.specs.Promise.{Kind}
use Rattle.frames.specs.Circle.{frame_at}
use Rattle.written.specs.declared.Shape.{Shape}
use Rattle.written.specs.Bits.{Written, written_at, effective}
use Rattle.written.specs.Well.{WellBits}
use Rattle.pages.specs.Lines.{page_line, archive_line}
use Rattle.pages.specs.declared.Ring.{Ring}
use Rattle.pages.specs.Ring.{WellRing}
use Rattle.pages.specs.Flags.{collected_at}
use Rattle.cache.specs.declared.Cache.{Cache}
use Rattle.cache.specs.Entries.{Sized, All}
use Rattle.cache.specs.Steps.{archive_frame}
use Rattle.cache.specs.Shown.{shown}
use Rattle.versions.specs.Newest.{page_of}
use Rattle.wellformed.specs.Parts.{WellArchive}
use Rattle.storage.specs.declared.Registers.{Registers}
use Rattle.storage.specs.declared.State.{State}

-- The lent lists: "The archive is a lent memory of 16 × L bytes beside the pool of 128 × P bytes. All other lent memory ..".
pub record Lent : Type 0 where
  pub archive : List ℕ
  pub pool : List ℕ
  pub groups : List ℕ
  pub table : List ℕ
  pub owners : List ℕ
  pub history : List ℕ

-- What a call is given and what it leaves: "the state and lent memory just as the call before it .. returned or left them".
pub record Storage : Type 0 where
  pub state : State
  pub memory : Lent

-- Both by their parts, in the order of the calls' parameters.
abbrev pub memory_of : (archive pool groups table owners history : List ℕ) → Lent
memory_of a p g t o h = record { archive = a; pool = p; groups = g; table = t; owners = o; history = h }

abbrev pub storage_of : State → (archive pool groups table owners history : List ℕ) → Storage
storage_of s a p g t o h = record { state = s; memory = memory_of a p g t o h }

-- The state by its registers and its cache.
abbrev pub state_of : Registers → Cache → State
state_of r cache = record { registers = r; cache = cache }

-- The settings that the state holds.
abbrev pub settings_at : Registers → Settings
settings_at r = record { lines = r.lines; frames = r.frames; pages = r.pages }

abbrev pub settings_in : State → Settings
settings_in s = settings_at s.registers

-- The registers as the rules have them.
abbrev pub registers_of : Registers → rules.Registers
registers_of r = record { settings = settings_at r; cmf = r.cmf; omf = r.omf }

abbrev pub registers_in : State → rules.Registers
registers_in s = registers_of s.registers

-- The live frames, by the registers.
abbrev pub live_at : Registers → ℕ
live_at r = live_frames (registers_of r)

abbrev pub live_in : State → ℕ
live_in s = live_at s.registers

-- What places the lent lists, and the written bits and the rollback history with it.
abbrev pub shape_at : Registers → Shape
shape_at r = record { lines = r.lines; frames = r.frames; omf = r.omf }

abbrev pub written_in : Storage → Written
written_in x = written_at (shape_at x.state.registers) x.memory.groups x.memory.history

-- The ring of pages that the calls but CHECK see: a start past the pool counts as 0, and more pages than there are count as all.
unfoldable pub start_in : (first pages : ℕ) → ℕ
start_in first pages = cond (ltb first pages) first 0

abbrev pub ring_at : Registers → Ring
ring_at r = record { shape = shape_at r; pages = r.pages; first = start_in r.first r.pages; used = min r.used r.pages }

-- The lent lengths, in elements.
abbrev pub lengths_in : Lent → Pieces
lengths_in m =
    record {
      archive = length m.archive;
      pool = length m.pool;
      groups = length m.groups;
      table = length m.table;
      owners = length m.owners;
      history = length m.history;
    }

-- All that lies past the first so many elements of each piece.
abbrev pub past_in : Pieces → Lent → Lent
past_in n m =
    record {
      archive = drop n.archive m.archive;
      pool = drop n.pool m.pool;
      groups = drop n.groups m.groups;
      table = drop n.table m.table;
      owners = drop n.owners m.owners;
      history = drop n.history m.history;
    }

-- The index from OMF of the frame that lies j marks back.
abbrev pub index_back : State → ℕ → ℕ
index_back s j = live_in s - 1 - j

-- A version in the pool: in its slot of the page that the table names for its frame and block.
unfoldable pub version_at : Storage → (index line : ℕ) → Line
version_at x i l =
    page_line x.memory.pool (page_of x.state.registers.lines x.state.registers.frames x.state.registers.omf x.memory.table i l) (l % 8)

-- Figure 2's frames: a line of a live frame is written if its bit is effective.
unfoldable pub frame_in : Storage → (back line : ℕ) → Option Line
frame_in x j l =
    cond (ltb j (live_in x.state) && (ltb l x.state.registers.lines && effective (written_in x) (index_back x.state j) l))
    (some (version_at x (index_back x.state j) l)) none

-- Figure 2's archive: its L lines, and nothing past them.
unfoldable pub archive_in : Storage → ℕ → Line
archive_in x l = cond (ltb l x.state.registers.lines) (archive_line x.memory.archive l) zeros

-- Which of its L lines were collected (request 2.3).
unfoldable pub collected_in : Storage → ℕ → Bool
collected_in x l = ltb l x.state.registers.lines && collected_at x.state.registers.pages x.memory.owners l

-- The most recent version of a line: Figure 2's search, from CMF back.
unfoldable pub latest_in : Storage → ℕ → Line
latest_in x l = version_in (live_in x.state) (λ j. frame_in x j l) (archive_in x l)

-- The number that the cache has for a place: the frame's own, or the archive's.
unfoldable pub frame_number : State → Place → ℕ
frame_number s (in_frame j) = frame_at s.registers.frames s.registers.omf (index_back s j)
frame_number s in_archive = archive_frame

-- The number of the frame that has a line's most recent version.
unfoldable pub newest_frame : Storage → ℕ → ℕ
newest_frame x l = frame_number x.state (found_in (live_in x.state) (λ j. is_written (frame_in x j l)))

-- Bytes and frame of a line's most recent version, and a cache whose valid entries have them: "It is write-through".
abbrev pub Recent : Storage → (line frame : ℕ) → Line → Type 0
Recent x l frame bytes = (bytes ≡ latest_in x l) × (frame ≡ newest_frame x l)

abbrev pub Coherent : Storage → Type 0
Coherent x = All (Recent x) x.state.cache

-- Well-formedness, which CHECK decides.
pub record WellStore (x : Storage) : Type 0 where
  -- the state is within its limits and the lent memory is long enough: else every call but RESET is refused
  pub fits : state_fits (registers_in x.state) ≡ true
  pub long : enough (settings_in x.state) (lengths_in x.memory) ≡ true
  -- every stored bit has a tag that the history knows, and only live frames have effective ones: else a frame could open with lines that
  -- were taken back
  pub bits : WellBits (written_in x) x.state.registers.tag (live_in x.state)
  -- the needed places' pages, and no others, are one segment of the pool's circle, in the order of their frames: else a line's bytes would lie
  -- outside the pool, two lines would share them, a page would be lost, or a rollback would free the wrong ones
  pub pages :
      WellRing (written_in x) x.state.registers.pages x.state.registers.first x.state.registers.used x.memory.table x.memory.owners
  -- each valid entry of the cache is in its own set, once, and below L: else a write would renew one entry of its line and leave another
  pub entries : WellCache (settings_in x.state) (shown x.state.cache)
  -- and has its line's most recent bytes and frame: else a read that hits would be wrong, or a rollback would forget the wrong entries
  pub coherent : Coherent x
  -- each line that was not collected is zero in the archive, written in a live frame or not: else it would be read as empty with another value than
  -- 0, now or after a rollback (request 2.3)
  pub archive_empty : WellArchive x.state.registers.lines x.state.registers.pages x.memory.archive x.memory.owners
  -- Facts of the types, true of all that a program can lend; the definitions are over lists of numbers, so they are said. The cache's arrays
  -- are as long as their type has it: else an entry could stand outside the 16 sets
  pub sized : Sized x.state.cache
  -- and a version and a line of the archive are 16 bytes: else no history could have written them
  pub version_line : (j l : ℕ) (v : Line) → frame_in x j l ≡ some v → IsLine v
  pub archive_line : (l : ℕ) → IsLine (archive_in x l)

-- The store's kind of storage, at which its functions cite the promise of `rules`.
abbrev pub store : Kind
store =
    record {
      Storage = Storage;
      registers = λ x. registers_in x.state;
      lengths = λ x. lengths_in x.memory;
      Rest = Lent;
      past = λ n x. past_in n x.memory;
      Well = WellStore;
      figure = λ x. record { live = live_in x.state; frame = frame_in x; archive = archive_in x; collected = collected_in x };
      cache = λ x. shown x.state.cache;
    }
