-- What each call promises in all: the promise of `rules`, and by definitions the state and the pieces of lent memory that it writes. A piece
-- that a call does not write is lent to it to read only, and stands in its contract as the same list before and after. The functions of
-- `access`, `write_blocks`, `marks` and `store` and the exported ones state the same.
use Rattle.std.specs.Prelude.{ℕ, ◌≡◌, List}
use Rattle.rules.specs.Sizing.{settings_of}
use Rattle.rules.specs.Line.{line_of}
use Rattle.rules.specs.Call.{Write, Look, Answer, Origin, filled}
use Rattle.rules.specs.Call.Answer.{outcome, reading, filling}
use Rattle.rules.specs.Promise.{RunBy, Promise}
use Rattle.rules.specs.Call.Change.{WRITE, MARK, ROLLBACK, ADVANCE}
use Rattle.rules.specs.Call.Act.{READ, LOOK, CHANGE}
use Rattle.rules.specs.Call.Call.{RESET, ON, WRITE_BLOCK}
use Rattle.cache.specs.declared.Cache.{Cache}
use Rattle.cache.specs.Entries.{cache_of}
use Rattle.storage.specs.declared.Registers.{Registers}
use Rattle.storage.specs.Storage.{Storage, Lent, state_of, WellStore, store}
use Rattle.storage.specs.Steps.{marked_state, ResetTo, RolledTo, AdvancedTo, ReadTo, WroteTo}

-- A storage by its registers, its cache and the lent memory.
abbrev pub storage_with : Registers → Cache → Lent → Storage
storage_with r cache m = record { state = state_of r cache; memory = m }

-- "RESET(L, F, P): archive all zero, one live frame, no written bits, all pages free, cache empty. Any lent contents will do."
abbrev pub Resets : Storage → (lines frames pages refusal : ℕ) → Storage → Type 0
Resets x l f p r t =
    Promise store (RESET (settings_of l f p)) x (outcome r) t
    × (r ≡ 0
    → ResetTo l f p x.memory.archive x.memory.groups x.memory.owners x.memory.history t.state t.memory.archive t.memory.groups t.memory.owners
    t.memory.history)

-- "WRITE(width, address, value): .. If the line has no written bit in CMF, its most recent version is copied there first; the bit is then set".
abbrev pub Writes : Storage → (width address value refusal : ℕ) → Storage → Type 0
Writes x w a v r t = Promise store (ON (CHANGE (WRITE w a v))) x (outcome r) t × (r ≡ 0 → WellStore x → WroteTo x w a v t)

-- An item of a block of writes (request 2.1): it is done as WRITE does it.
abbrev pub WritesItem : Storage → Write → (refusal : ℕ) → Storage → Type 0
WritesItem x w r t = Writes x w.width w.address w.value r t

-- The items "in order", each on the storage that the one before left, and each one's refusal, or 0, at its place in the answer list.
pub record WritesItems (x : Storage) (items : List Write) (list left : List ℕ) (t : Storage) : Type 0 where
  pub refusals : List ℕ
  pub each : RunBy WritesItem x items refusals t
  pub left_is : left ≡ filled refusals list

-- "One call takes a list of writes and a list for answers, and does them in order": its promise, whose run of single WRITEs is this one, with
-- all that WRITE says.
abbrev pub WritesBlock : Storage → (items : List Write) → (list : List ℕ) → (refusal : ℕ) → (left : List ℕ) → Storage → Type 0
WritesBlock x items list r left t = Promise store (WRITE_BLOCK items list) x (filling r left) t × (r ≡ 0 → WritesItems x items list left t)

-- "READ(width, address): the value and its origin."
abbrev pub Reads : Storage → (width address refusal value : ℕ) → Origin → Storage → Type 0
Reads x w a r v o t = Promise store (ON (READ w a)) x (reading r v o) t × (r ≡ 0 → ReadTo x (line_of a) t.state)

-- "MARK: opens the next frame, without written bits. Nothing is copied."
abbrev pub Marks : Storage → (refusal : ℕ) → Storage → Type 0
Marks x r t = Promise store (ON (CHANGE MARK)) x (outcome r) t × (r ≡ 0 → t.state ≡ marked_state x.state)

-- "ROLLBACK(k): drops the k newest frames."
abbrev pub RollsBack : Storage → (k refusal : ℕ) → Storage → Type 0
RollsBack x k r t =
    Promise store (ON (CHANGE (ROLLBACK k))) x (outcome r) t
    × (r ≡ 0 → RolledTo x.state x.memory.groups x.memory.owners x.memory.history k t.state t.memory.groups t.memory.history)

-- "ADVANCE(k): folds the k oldest frames into the archive, newest version of each line winning, and frees them."
abbrev pub Advances : Storage → (k refusal : ℕ) → Storage → Type 0
Advances x k r t =
    Promise store (ON (CHANGE (ADVANCE k))) x (outcome r) t
    × (r ≡ 0
    → AdvancedTo x.state x.memory.archive x.memory.pool x.memory.groups x.memory.owners x.memory.history k t.state
    t.memory.archive t.memory.groups t.memory.owners t.memory.history)

-- The same of the calls that do not look at the cache, or only at a part of it: whatever the rest holds, which stays. LINE, its companion
-- and COUNTS look at the registers and the lent memory, and change nothing;
abbrev pub Looks : Look → Registers → Lent → Answer → Type 0
Looks q r m a = (cache : Cache) → Promise store (ON (LOOK q)) (storage_with r cache m) a (storage_with r cache m)

-- MARK changes the registers alone;
abbrev pub MarksIn : (before : Registers) → Lent → (refusal : ℕ) → (after : Registers) → Type 0
MarksIn s m r t = (cache : Cache) → Marks (storage_with s cache m) r (storage_with t cache m)

-- ROLLBACK the registers and the valid flags, by the entries' frames;
abbrev pub RollsBackIn : (origins : List ℕ) → (before : Registers) → (valid : List ℕ) → Lent → (k refusal : ℕ) → (after : Registers) → (valid-after : List ℕ)
    → Lent → Type 0
RollsBackIn origins s valid m k r t valid-after n =
    (held bytes last : List ℕ)
    → RollsBack (storage_with s (cache_of held origins valid bytes last) m) k r (storage_with t (cache_of held origins valid-after bytes last) n)

-- ADVANCE the registers and the entries' frames.
abbrev pub AdvancesIn : (before : Registers) → (origins : List ℕ) → Lent → (k refusal : ℕ) → (after : Registers) → (origins-after : List ℕ) → Lent → Type 0
AdvancesIn s origins m k r t origins-after n =
    (held valid bytes last : List ℕ)
    → Advances (storage_with s (cache_of held origins valid bytes last) m) k r (storage_with t (cache_of held origins-after valid bytes last) n)
