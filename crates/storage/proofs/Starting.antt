-- RESET keeps its promise, on any state and any lent contents. Assumes nothing.
use mathlib.Core.Path.{◌≡◌, refl, sym, ◌∙◌, ap, subst}
use mathlib.Core.Logic.{◌≢◌}
use mathlib.Core.Bool.{Bool, true, false, cond, ◌&&◌}
use mathlib.Core.Option.{none, some}
use mathlib.Core.List.{List}
use Prim.Native.Nat.{ℕ, ◌+◌, ◌*◌, ◌/◌, ◌-◌, ◌≤◌, ◌<◌, min}
use native.Mathlib.Decide.{dec_lt}
use native.Mathlib.Omega.{arith}
use borrow.Author.Tests.{lt-ltb, le-ltb}
use lib.Dec.{ltb}
use lib.ListN.{length, set, drop, take, length-set, length-take, length-drop, replicate, get_or-replicate}
use lib.Seq.{ext_get_or, get_or-take, get_or-drop, drop-set-lt}
use Rattle.rules.specs.Settings.{Settings, Pieces, within, elements, enough, covers}
use Rattle.rules.specs.Sizing.{settings_of}
use Rattle.rules.specs.Line.{zeros}
use Rattle.rules.specs.Call.{refused}
use Rattle.rules.specs.Call.Answer.{outcome}
use Rattle.rules.specs.Call.Call.{RESET}
use Rattle.rules.specs.Refusal.{unless, asked_refusal, refusal, facts_by}
use Rattle.rules.specs.Registers.{at_start}
use Rattle.rules.specs.Figure2.{initial}
use Rattle.rules.specs.Figure3.{WellCache}
use Rattle.rules.specs.Promise.{Promise, Started, settings_for}
use Rattle.rules.proofs.Settings.{Good, within-good, good-within}
use Rattle.rules.proofs.Chain.{passed}
use Rattle.rules.proofs.Registers.{facts-fit, live-start}
use Rattle.rules.proofs.WellSteps.{initial-well}
use Rattle.rules.proofs.WellCache.{empty-well}
use Rattle.lists.specs.Lists.{rewrite}
use Rattle.lists.specs.Lines.{line_at}
use Rattle.lists.proofs.Lists.{rewrite-drop, rewrite-length, rewrite-at}
use Rattle.written.specs.Steps.{blanked, AsksReset}
use Rattle.written.specs.Well.{WellBits}
use Rattle.written.proofs.Keeping.{started-effective, started-well}
use Rattle.pages.specs.Lines.{archive_line}
use Rattle.pages.specs.Flags.{collected_at, unflagged}
use Rattle.pages.proofs.Keeping.{started-ring}
use Rattle.pages.proofs.Flagging.{unflagged-length, unflagged-past, unflagged-none}
use Rattle.cache.specs.declared.Cache.{Cache}
use Rattle.cache.specs.Steps.{emptied}
use Rattle.cache.proofs.Uses.{empty-shown, empty-all, empty-sized}
use Rattle.versions.specs.Steps.{zeroed}
use Rattle.storage.specs.Storage.{Storage, state_of, storage_of, memory_of, lengths_in, live_in, written_in, index_back, version_at, frame_in, archive_in, collected_in, Recent, WellStore, store}
use Rattle.storage.specs.declared.State.{State}
use Rattle.storage.specs.Steps.{fresh_state}
use Rattle.storage.specs.Clauses.{Resets}
use Rattle.storage.proofs.Admitting.{Long, covers-long, long-covers}
use Rattle.storage.proofs.Figures.{frame-at, frame-live, frame_past, step-versions, step-archive, figure-archive}
use Rattle.storage.proofs.Looking.{turned_down, let_through}

-- The state in the form in which the code builds it.
pub fresh-told : (lines frames pages : ℕ) (held : Cache) → held ≡ emptied
    → state_of (record { lines = lines; frames = frames; pages = pages; cmf = 0; omf = 0; tag = 0; first = 0; used = 0 }) held ≡ fresh_state lines frames pages
unfolding fresh_state
fresh-told lines frames pages held e = ap (state_of (record { lines = lines; frames = frames; pages = pages; cmf = 0; omf = 0; tag = 0; first = 0; used = 0 })) e

-- A line of the archive that is all zero.
zero-line : (lines : ℕ) (archive : List ℕ) (l : ℕ) → l < lines → 16 * lines ≤ length archive → archive_line (zeroed lines archive) l ≡ zeros
unfolding zeroed zeros line_at
zero-line lines archive l b long =
    ext_get_or 0 (take 16 (drop (16 * l) cleared)) (replicate 16 0) whole
    (λ i h.
    let below : i < 16 = subst (λ (n : ℕ). i < n) whole h in
    get_or-take 16 (drop (16 * l) cleared) i 0 below
    ∙ (get_or-drop (16 * l) cleared i 0 ∙ (rewrite-at _ archive (16 * lines) (16 * l + i) (omega arith) (omega arith) ∙ sym (get_or-replicate 16 i 0 0 below))))
  where
    cleared : List ℕ
    cleared = rewrite (16 * lines) (λ _ b. 0) archive

    room : (n : ℕ) → 16 * lines ≤ n → min 16 (n - 16 * l) ≡ 16
    room n h = omega arith

    whole : length (take 16 (drop (16 * l) cleared)) ≡ 16
    whole =
        length-take 16 (drop (16 * l) cleared)
        ∙ (ap (min 16) (length-drop (16 * l) cleared ∙ ap (λ (n : ℕ). n - 16 * l) (rewrite-length _ archive (16 * lines))) ∙ room (length archive) long)

module _ (asked : Settings) (m : Storage) (good : Good asked) (long : Long (elements asked) (lengths_in m.memory)) where
  abbrev lines : ℕ
  lines = asked.lines

  abbrev pub begun : Storage
  begun =
      storage_of (fresh_state lines asked.frames asked.pages) (zeroed lines m.memory.archive) m.memory.pool (blanked lines asked.frames m.memory.groups) m.memory.table
      (unflagged asked.pages lines m.memory.owners)
      (set m.memory.history 0 65535)

  live : live_in begun.state ≡ 1
  unfolding fresh_state at_start
  live = live-start asked (omega (arith, good.frames_from))

  -- no line has its written bit
  some-lines : 0 < lines
  some-lines = omega (arith, good.lines_from)

  some-frames : 0 < asked.frames
  some-frames = omega (arith, good.frames_from)

  few-frames : asked.frames ≤ 4096
  few-frames = omega (arith, good.frames_to)

  archive_long : 16 * lines ≤ length m.memory.archive
  unfolding elements
  archive_long = long.archive

  long-enough : enough asked (lengths_in m.memory) ≡ true
  unfolding covers
  long-enough = long-covers (elements asked) (lengths_in m.memory) long

  groups_long : asked.frames / 16 * lines ≤ length m.memory.groups
  unfolding elements
  groups_long = long.groups

  history_long : 256 ≤ length m.memory.history
  unfolding elements
  history_long = long.history

  begun-frame : (j l : ℕ) → frame_in begun j l ≡ none
  unfolding fresh_state
  begun-frame j l = go (dec_lt j (live_in begun.state)) (dec_lt l lines)
    where
      go : Dec (j < live_in begun.state) → Dec (l < lines) → frame_in begun j l ≡ none
      go (yes h) (yes b) =
          frame-at begun j l h b
          ∙ ap (λ (t : Bool). cond t (some (version_at begun (index_back begun.state j) l)) none)
          (started-effective lines asked.frames m.memory.groups m.memory.history some-lines good.lines_to good.frames_by some-frames few-frames groups_long history_long (index_back begun.state j) l b)
      go (yes h) (no b) = frame_past begun j l (omega arith)
      go (no h) b = frame-live begun j l (omega arith)

  -- and the archive is all zero
  begun-archive : (l : ℕ) → archive_in begun l ≡ zeros
  unfolding archive_in fresh_state
  begun-archive l = go (dec_lt l lines)
    where
      go : Dec (l < lines) → cond (ltb l lines) (archive_line (zeroed lines m.memory.archive) l) zeros ≡ zeros
      go (yes b) = ap (λ (t : Bool). cond t (archive_line (zeroed lines m.memory.archive) l) zeros) (lt-ltb l lines b) ∙ zero-line lines m.memory.archive l b archive_long
      go (no b) = ap (λ (t : Bool). cond t (archive_line (zeroed lines m.memory.archive) l) zeros) (le-ltb l lines (omega arith))

  owners_long : asked.pages + lines ≤ length m.memory.owners
  unfolding elements
  owners_long = long.owners

  -- and no line was collected
  begun-collected : (l : ℕ) → collected_in begun l ≡ false
  unfolding collected_in fresh_state
  begun-collected l = go (dec_lt l lines)
    where
      go : Dec (l < lines) → (ltb l lines && collected_at asked.pages (unflagged asked.pages lines m.memory.owners) l) ≡ false
      go (yes b) =
          ap (λ (t : Bool). t && collected_at asked.pages (unflagged asked.pages lines m.memory.owners) l) (lt-ltb l lines b)
          ∙ unflagged-none asked.pages lines m.memory.owners l b owners_long
      go (no b) = ap (λ (t : Bool). t && collected_at asked.pages (unflagged asked.pages lines m.memory.owners) l) (le-ltb l lines (omega arith))

  begun-figure : store.figure begun ≡ initial
  unfolding initial fresh_state
  begun-figure = λ i. record { live = live i; frame = λ j l. begun-frame j l i; archive = λ l. begun-archive l i; collected = λ l. begun-collected l i }

  lengths : lengths_in begun.memory ≡ lengths_in m.memory
  unfolding zeroed blanked
  lengths = λ i.
      record {
        archive = rewrite-length (λ _ b. 0) m.memory.archive (16 * lines) i;
        pool = length m.memory.pool;
        groups = rewrite-length (λ _ g. 0) m.memory.groups (asked.frames / 16 * lines) i;
        table = length m.memory.table;
        owners = unflagged-length asked.pages lines m.memory.owners i;
        history = length-set m.memory.history 0 65535 i;
      }

  begun-well : WellStore begun
  unfolding fresh_state at_start
  begun-well =
      record {
        fits = facts-fit (at_start asked) (record { limits = good-within asked good; cmf_below = some-frames; omf_below = some-frames });
        long = subst (λ (p : Pieces). enough asked p ≡ true) (sym lengths) long-enough;
        bits = subst (WellBits (written_in begun) 0) (sym live) (started-well lines asked.frames m.memory.groups m.memory.history some-lines good.lines_to good.frames_by some-frames few-frames groups_long history_long);
        pages =
            started-ring (written_in begun) asked.pages m.memory.table (unflagged asked.pages lines m.memory.owners) good.pages_from
            (started-effective lines asked.frames m.memory.groups m.memory.history some-lines good.lines_to good.frames_by some-frames few-frames groups_long history_long);
        archive_empty = figure-archive begun asked initial begun-figure (initial-well asked good);
        sized = empty-sized;
        version_line = step-versions begun asked initial begun-figure (initial-well asked good);
        archive_line = step-archive begun asked initial begun-figure (initial-well asked good);
        entries = subst (WellCache asked) (sym empty-shown) (empty-well asked);
        coherent = empty-all (Recent begun);
      }

  begun-started : Started store asked (outcome 0) begun
  unfolding fresh_state at_start
  begun-started =
      record { answer = refl; well = begun-well; registers = refl; figure = begun-figure; cache = empty-shown }

-- What the tests of a RESET leave, and what the layers ask.
module _ (lines frames pages a : ℕ) (p : Pieces) (told : a ≡ asked_refusal p (settings_of lines frames pages)) (z : a ≡ 0) where
  tests : (within (settings_of lines frames pages) ≡ true) × (enough (settings_of lines frames pages) p ≡ true)
  unfolding asked_refusal
  tests =
      let t = passed (within (settings_of lines frames pages)) 4 (unless (enough (settings_of lines frames pages) p) 6 0) (omega arith) (sym told ∙ z) in
      (t.0, (passed (enough (settings_of lines frames pages) p) 6 0 (omega arith) t.1).0)

  pub reset-good : Good (settings_of lines frames pages)
  reset-good = within-good (settings_of lines frames pages) tests.0

  pub reset-long : Long (elements (settings_of lines frames pages)) p
  unfolding covers
  reset-long = covers-long (elements (settings_of lines frames pages)) p tests.1

  pub zero-asks : (lines ≤ 4096) × (16 * lines ≤ p.archive)
  unfolding elements
  zero-asks = (reset-good.lines_to, reset-long.archive)

  pub clear-asks : (pages ≤ 4096) × (lines ≤ 4096) × (pages + lines ≤ p.owners)
  unfolding elements
  clear-asks = (reset-good.pages_to, reset-good.lines_to, reset-long.owners)

  pub reset-asks : AsksReset lines frames p.groups p.history
  unfolding elements
  reset-asks =
      record { lines_few = reset-good.lines_to; frames_few = omega (arith, reset-good.frames_to); groups_enough = reset-long.groups; history_some = omega (arith, reset-long.history) }

-- The promise: refused, and accepted, in the form in which the code has what is left.
module _ (x : Storage) (lines frames pages a : ℕ) (told : a ≡ asked_refusal (lengths_in x.memory) (settings_of lines frames pages)) where
  abbrev asked : Settings
  asked = settings_of lines frames pages

  pub reset-refused : a ≢ 0 → Resets x lines frames pages a x
  unfolding refusal facts_by refused
  reset-refused z = (turned_down x (RESET asked) a told z, λ e. absurd (z e))

  module _ (z : a ≡ 0) where
    abbrev good-asked : Good asked
    good-asked = reset-good lines frames pages a (lengths_in x.memory) told z

    abbrev long-asked : Long (elements asked) (lengths_in x.memory)
    long-asked = reset-long lines frames pages a (lengths_in x.memory) told z

    promised : Promise store (RESET asked) x (outcome 0) (begun asked x good-asked long-asked)
    unfolding refusal facts_by refused settings_for elements zeroed blanked
    promised =
        let_through x (RESET asked) a told z refl (begun-started asked x good-asked long-asked) (lengths asked x good-asked long-asked)
        (λ i. memory_of (rewrite-drop (λ _ b. 0) x.memory.archive (16 * lines) (16 * lines) (omega arith) i) (drop (128 * pages) x.memory.pool)
        (rewrite-drop (λ _ g. 0) x.memory.groups (frames / 16 * lines) (frames / 16 * lines) (omega arith) i) (drop (frames * (lines / 8)) x.memory.table)
        (unflagged-past pages lines x.memory.owners (pages + lines) (omega arith) i) (drop-set-lt 256 x.memory.history 0 65535 (omega arith) i))

    pub reset-begins : (archive groups owners history : List ℕ) (s : State) → archive ≡ zeroed lines x.memory.archive → groups ≡ blanked lines frames x.memory.groups
        → owners ≡ unflagged pages lines x.memory.owners → history ≡ set x.memory.history 0 65535 → s ≡ fresh_state lines frames pages
        → Resets x lines frames pages 0 (storage_of s archive x.memory.pool groups x.memory.table owners history)
    reset-begins archive groups owners history s ea eg eo eh es =
        (rw ea (rw eg (rw eo (rw eh (rw es promised)))), λ d. record { state = es; archive_is = ea; groups_is = eg; owners_is = eo; history_is = eh })
