-- ADVANCE keeps its promise. Assumes nothing.
use mathlib.Core.Path.{◌≡◌, refl, sym, ◌∙◌, ap, ap₂, subst}
use mathlib.Core.Logic.{◌≢◌}
use mathlib.Core.Bool.{Bool, true, cond, ◌&&◌, ◌||◌}
use mathlib.Core.Option.{none, some}
use mathlib.Core.List.{List}
use Prim.Native.Nat.{ℕ, ◌+◌, ◌-◌, ◌*◌, ◌/◌, ◌%◌, ◌≤◌, ◌<◌}
use native.Mathlib.Nat.{mod-lt, mod-add-mod, add_assoc}
use native.Mathlib.Decide.{dec_lt}
use native.Mathlib.Omega.{arith}
use borrow.Author.Tests.{lt-ltb, le-ltb}
use lib.Dec.{ltb}
use lib.ListN.{length, get_or, drop}
use Rattle.rules.specs.Settings.{Pieces, elements, enough}
use Rattle.rules.specs.Line.{Line, zeros}
use Rattle.rules.specs.Call.{Place, refused}
use Rattle.rules.specs.Call.Place.{in_frame, in_archive}
use Rattle.rules.specs.Call.Answer.{outcome}
use Rattle.rules.specs.Call.Change.{ADVANCE}
use Rattle.rules.specs.Call.Act.{CHANGE}
use Rattle.rules.specs.Call.Call.{ON}
use Rattle.rules.specs.Seen.{accepted, dropped, any}
use Rattle.rules.proofs.Count.{any_same}
use Rattle.rules.specs.Refusal.{marked_refusal, refusal, act_refusal, facts_by}
use Rattle.rules.specs.Figure2.{figure_step, registers_step, omrv, has_omrv, version_in, found_in, is_written}
use Rattle.rules.specs.Figure3.{WellCache, cache_step}
use Rattle.rules.specs.Promise.{Promise, Followed, settings_for, WellFigure}
use Rattle.rules.proofs.Registers.{facts-fit, live-advance}
use Rattle.rules.proofs.WellSteps.{advance-well}
use Rattle.frames.specs.Circle.{frame_at}
use Rattle.numbers.specs.Search.{greatest}
use Rattle.numbers.proofs.Search.{greatest-found}
use Rattle.written.specs.Bits.{effective}
use Rattle.written.specs.Steps.{lowered}
use Rattle.written.specs.Well.{WellBits}
use Rattle.written.proofs.Advancing.{Collected, advanced-effective, advanced-well}
use Rattle.written.proofs.Finding.{version-back}
use Rattle.pages.specs.Lines.{page_line, archive_line}
use Rattle.pages.specs.Ring.{nth_page, index_at, Splits, WellRing}
use Rattle.pages.proofs.Keeping.{advanced-ring}
use Rattle.cache.specs.Steps.{archive_frame, frame_after, frames_after, with_origins, advanced_cache}
use Rattle.cache.specs.Shown.{shown}
use Rattle.cache.proofs.Frames.{advanced-sized, advanced-shown, advanced-all}
use Rattle.versions.specs.Newest.{page_of}
use Rattle.versions.specs.Steps.{folded_pages, flagged_pages, cleared_pages}
use Rattle.versions.proofs.Folding.{index-frame-few}
use Rattle.versions.proofs.Archived.{PagesFolded, pages-folded, hit}
use Rattle.versions.proofs.Flagged.{PagesFlagged, pages-flagged}
use Rattle.versions.proofs.Walking.{folded-line, any-collected}
use Rattle.pages.proofs.Flagging.{ring-owners}
use Rattle.versions.proofs.Cleared.{PagesCleared, pages-cleared, pages-collected}
use Rattle.storage.specs.declared.Registers.{Registers}
use Rattle.storage.specs.Storage.{Storage, state_of, storage_of, memory_of, start_in, settings_in, registers_in, lengths_in, past_in, Recent, Coherent, live_in, written_in, index_back, frame_in, archive_in, version_at, collected_in, latest_in, frame_number, newest_frame, WellStore, store}
use Rattle.storage.specs.Steps.{FirstPages, advanced_registers, advanced_state}
use Rattle.storage.specs.Admit.{admitted, Room}
use Rattle.storage.specs.Clauses.{Advances}
use Rattle.storage.proofs.Rings.{start-same, start-below, used-same, ring-first}
use Rattle.storage.proofs.Limits.{Limits, limits, lent-long}
use Rattle.storage.proofs.Admitting.{room_of}
use Rattle.storage.proofs.Chains.{frames-room}
use Rattle.storage.proofs.Looking.{admitted_in, told_in, turned_down, let_through}
use Rattle.storage.proofs.Figures.{AlikeAt, frames-alike, frame-at, frame-live, archive-past, collected-past, collected-at, well-figure, step-versions, step-archive, figure-archive}
use Rattle.storage.proofs.Past.{lowered_long, lowered-past}
use Rattle.storage.proofs.Numbers.{below-frame, below-archive}
use Rattle.storage.proofs.Reading.{well-findable, version-content}
use Rattle.storage.proofs.Rows.{Within, found_within, version-same, split-version, first, first_found, any-back, written-some}

-- What it leaves, and that it stays within the lent memory.
module _ (x : Storage) (k gone : ℕ) where
  abbrev start : ℕ
  start = start_in x.state.registers.first x.state.registers.pages

  abbrev pub collected-to : Storage
  collected-to =
      storage_of (advanced_state x.state k gone)
      (folded_pages (written_in x) x.state.registers.pages start x.memory.pool x.memory.owners gone x.memory.archive) x.memory.pool
      (cleared_pages x.state.registers.lines x.state.registers.pages start x.memory.owners gone x.memory.groups) x.memory.table
      (flagged_pages (written_in x) x.state.registers.pages start x.memory.owners gone) (lowered k x.memory.history)

  module _ (r : Room (registers_in x.state) (lengths_in x.memory)) (below : k ≤ x.state.registers.frames) (found : FirstPages x.state.registers x.memory.owners k gone) where
    folded-in : PagesFolded (written_in x) x.state.registers.pages start x.memory.owners x.memory.pool gone x.memory.archive collected-to.memory.archive
    unfolding elements
    folded-in =
        pages-folded (written_in x) x.state.registers.pages start x.memory.owners x.memory.pool gone x.memory.archive r.lines_by r.archive_long
        (start-below x.state.registers.first x.state.registers.pages (omega (arith, r.pages_from))) r.pool_long

    flagged-in : PagesFlagged (written_in x) x.state.registers.pages start x.memory.owners gone collected-to.memory.owners
    flagged-in = pages-flagged (written_in x) x.state.registers.pages start x.memory.owners gone r.lines_by r.owners_long

    cleared-in : PagesCleared (written_in x) r.lines_by r.frames_by x.state.registers.pages start x.memory.owners gone x.memory.groups collected-to.memory.groups
    unfolding elements index_at
    cleared-in =
        pages-cleared (written_in x) r.lines_by r.frames_by x.state.registers.pages start x.memory.owners gone x.memory.groups
        (λ i b. index-frame-few x.state.registers.frames x.state.registers.omf _ k (found.low i b) below) r.groups_long

    lengths-kept : lengths_in collected-to.memory ≡ lengths_in x.memory
    lengths-kept = λ i.
        record {
          archive = folded-in.long i;
          pool = length x.memory.pool;
          groups = cleared-in.long i;
          table = length x.memory.table;
          owners = flagged-in.kept.long i;
          history = lowered_long k x.memory.history i;
        }

    past-kept : past_in (elements (settings_in x.state)) collected-to.memory ≡ past_in (elements (settings_in x.state)) x.memory
    unfolding elements
    past-kept = λ i.
        memory_of (folded-in.past i) (drop (128 * x.state.registers.pages) x.memory.pool) (cleared-in.past i)
        (drop (x.state.registers.frames * (x.state.registers.lines / 8)) x.memory.table) (flagged-in.kept.past i) (lowered-past k x.memory.history i)

module _ (x : Storage) (q : WellStore x) (k gone : ℕ) (some-k : 0 < k) (low : k ≤ live_in x.state - 1) (found : FirstPages x.state.registers x.memory.owners k gone) where
  abbrev n : ℕ
  n = live_in x.state

  abbrev kept : ℕ
  kept = n - k

  abbrev new : Storage
  new = collected-to x k gone

  abbrev lim : Limits x
  lim = limits x q.fits

  below : k < x.state.registers.frames
  below = omega (arith, lim.live_most)

  all : n ≡ kept + k
  all = omega arith

  live : live_in new.state ≡ kept
  unfolding advanced_state
  live = live-advance (registers_in x.state) lim.fits k low

  room : Room (registers_in x.state) (lengths_in x.memory)
  room = room_of _ _ lim.fits (lent-long x q.long)

  parts : Splits x.state.registers.used (index_at x.state.registers.frames x.state.registers.omf x.state.registers.pages x.state.registers.first x.memory.owners) k gone
  parts = ring-first x q k gone found

  -- the ring starts where the registers say
  started : start x k gone ≡ x.state.registers.first
  started = start-same x.state.registers.first x.state.registers.pages q.pages.first_below

  groups-collected : Collected (written_in x) k new.memory.groups
  groups-collected =
      subst (λ (f : ℕ). Collected (written_in x) k (cleared_pages x.state.registers.lines x.state.registers.pages f x.memory.owners gone x.memory.groups)) (sym started)
      (pages-collected (written_in x) q.bits.lent x.state.registers.pages x.state.registers.first x.state.registers.used gone k (omega (arith, below)) x.memory.table x.memory.owners q.pages parts lim.good.lines_by)

  -- ---- frames: those that stay have their index less k
  index : (j : ℕ) → j < kept → k + index_back new.state j ≡ index_back x.state j
  index j h = ap (λ (m : ℕ). k + (m - 1 - j)) live ∙ same n low h
    where
      same : (n : ℕ) → k ≤ n - 1 → j < n - k → k + (n - k - 1 - j) ≡ n - 1 - j
      same n low h = omega arith

  frame_on : (j : ℕ) → j < kept → frame_at x.state.registers.frames new.state.registers.omf (index_back new.state j) ≡ frame_at x.state.registers.frames x.state.registers.omf (index_back x.state j)
  unfolding frame_at advanced_state
  frame_on j h =
      mod-add-mod (x.state.registers.omf + k) x.state.registers.frames (index_back new.state j)
      ∙ ap (λ (m : ℕ). m % x.state.registers.frames) (add_assoc x.state.registers.omf k (index_back new.state j) ∙ ap (λ (m : ℕ). x.state.registers.omf + m) (index j h))

  collected-alike : (j l : ℕ) → j < kept → l < x.state.registers.lines → AlikeAt new x (index_back new.state j) (index_back x.state j) l
  unfolding version_at advanced_state frame_at page_of
  collected-alike j l h b =
      record {
        bit =
            advanced-effective (written_in x) q.bits.lent k below new.memory.groups groups-collected (index_back new.state j) l (omega (arith, index j h, lim.live_most)) b
            ∙ (ap (λ (i : ℕ). ltb i x.state.registers.frames && effective (written_in x) i l) (index j h)
            ∙ ap (λ (t : Bool). t && effective (written_in x) (index_back x.state j) l) (lt-ltb (index_back x.state j) x.state.registers.frames (omega (arith, lim.live_most))));
        version = λ _. ap (λ (f : ℕ). page_line x.memory.pool (get_or x.memory.table (f * (x.state.registers.lines / 8) + l / 8) 0) (l % 8)) (frame_on j h);
      }

  stays : (j l : ℕ) → j < kept → frame_in new j l ≡ frame_in x j l
  unfolding advanced_state
  stays j l h =
      frames-alike new x j j l refl (λ _. omega arith) (λ _. omega (arith, live)) (λ _ d b. collected-alike j l h b)

  collected-frame : (j l : ℕ) → frame_in new j l ≡ cond (ltb j kept) (frame_in x j l) none
  collected-frame j l = go (dec_lt j kept)
    where
      go : Dec (j < kept) → frame_in new j l ≡ cond (ltb j kept) (frame_in x j l) none
      go (yes h) = stays j l h ∙ sym (ap (λ (t : Bool). cond t (frame_in x j l) none) (lt-ltb j kept h))
      go (no h) = frame-live new j l (omega (arith, live)) ∙ sym (ap (λ (t : Bool). cond t (frame_in x j l) none) (le-ltb j kept (omega arith)))

  -- ---- archive
  module _ (l : ℕ) (b : l < x.state.registers.lines) where
    abbrev row : ℕ → Bool
    row i = effective (written_in x) i l

    oldest : (j : ℕ) → j < k → frame_in x (kept + j) l ≡ cond (row (k - 1 - j)) (some (version_at x (k - 1 - j) l)) none
    oldest j h =
        frame-at x (kept + j) l (omega arith) b
        ∙ ap (λ (i : ℕ). cond (row i) (some (version_at x i l)) none) (same n low)
      where
        same : (n : ℕ) → k ≤ n - 1 → n - 1 - (n - k + j) ≡ k - 1 - j
        same n low = omega arith

    archive-folded : archive_in new l ≡ version_in k (λ j. frame_in x (kept + j) l) (archive_in x l)
    unfolding archive_in advanced_state elements
    archive-folded =
        ap (λ (t : Bool). cond t (archive_line new.memory.archive l) zeros) (lt-ltb l x.state.registers.lines b)
        ∙ (ap (λ (f : ℕ). archive_line (folded_pages (written_in x) x.state.registers.pages f x.memory.pool x.memory.owners gone x.memory.archive) l) started
        ∙ (folded-line (written_in x) q.bits.lent x.state.registers.pages x.state.registers.first x.state.registers.used gone k (omega (arith, below)) x.memory.table x.memory.owners q.pages parts lim.good.lines_by l b x.memory.pool x.memory.archive room.archive_long room.pool_long
        ∙ (version-content x (well-findable x q) l b (greatest k row) (λ i e. let g = greatest-found k row i e in (omega (arith, g.below), g.passes))
        ∙ (sym (version-back k row (λ i. version_at x i l) (archive_in x l))
        ∙ sym (version-same k (λ j. frame_in x (kept + j) l) (λ j. cond (row (k - 1 - j)) (some (version_at x (k - 1 - j) l)) none) (archive_in x l) oldest)))))

  next-well : WellFigure (settings_in x.state) (figure_step (CHANGE (ADVANCE k)) (store.registers x) (store.figure x))
  next-well = advance-well (settings_in x.state) (store.registers x) (store.figure x) (well-figure x q) k low

  collected-archive : (l : ℕ) → archive_in new l ≡ omrv (store.figure x) k l
  unfolding omrv figure_step advanced_state
  collected-archive l = go (dec_lt l x.state.registers.lines)
    where
      go : Dec (l < x.state.registers.lines) → archive_in new l ≡ version_in k (λ j. frame_in x (kept + j) l) (archive_in x l)
      go (yes b) = archive-folded l b
      go (no b) = archive-past new l (omega arith) ∙ sym (next-well.archive_empty l (next-well.collected_lines l (omega arith)))

  -- ---- flags: a line is collected if some frame that goes has it
  collected-flag : (l : ℕ) → collected_in new l ≡ (has_omrv (store.figure x) k l || collected_in x l)
  unfolding has_omrv figure_step advanced_state
  collected-flag l = go (dec_lt l x.state.registers.lines)
    where
      go : Dec (l < x.state.registers.lines) → collected_in new l ≡ (any k (λ j. is_written (frame_in x (kept + j) l)) || collected_in x l)
      go (yes b) =
          collected-at new l b
          ∙ ((flagged-in x k gone room (omega (arith, below)) found).line l b
          ∙ ap₂ (λ (s t : Bool). s || t)
          (ap (λ (f : ℕ). any gone (hit (written_in x) x.state.registers.pages f x.memory.owners l)) started
          ∙ (any-collected (written_in x) q.bits.lent x.state.registers.pages x.state.registers.first x.state.registers.used gone k
          (omega (arith, below)) x.memory.table x.memory.owners q.pages parts lim.good.lines_by l b
          ∙ (sym (any-back k (row l b)) ∙ sym (any_same k (λ j. is_written (frame_in x (kept + j) l)) (λ j. row l b (k - 1 - j)) (λ j h. ap is_written (oldest l b j h) ∙ written-some (row l b (k - 1 - j)) _)))))
          (sym (collected-at x l b)))
      go (no b) = collected-past new l (omega arith) ∙ sym (next-well.collected_lines l (omega arith))

  collected-figure : store.figure new ≡ figure_step (CHANGE (ADVANCE k)) (store.registers x) (store.figure x)
  unfolding figure_step
  collected-figure = λ i. record { live = live i; frame = λ j l. collected-frame j l i; archive = λ l. collected-archive l i; collected = λ l. collected-flag l i }

  -- ---- cache: every line is found as before, and in the archive where its frame is collected
  collected-latest : (l : ℕ) → latest_in new l ≡ latest_in x l
  unfolding latest_in omrv
  collected-latest l =
      ap₂ (λ (m : ℕ) (v : Line). version_in m (λ j. frame_in new j l) v) live (collected-archive l)
      ∙ split-version kept k n (λ j. frame_in x j l) (λ j. frame_in new j l) (archive_in x l) all (λ j h. stays j l h)

  archive-stays : frame_after x.state.registers.frames x.state.registers.omf k archive_frame ≡ archive_frame
  unfolding frame_after
  archive-stays = ap (λ (t : Bool). cond t archive_frame archive_frame) (below-archive x.state.registers.frames x.state.registers.omf (omega (arith, lim.good.frames_to)) lim.fits.omf_below k)

  frame-collected : (o : Place) → Within n o → frame_after x.state.registers.frames x.state.registers.omf k (frame_number x.state o) ≡ frame_number new.state (first kept o)
  unfolding frame_after frame_number dropped advanced_state
  frame-collected (in_frame j) h =
      ap (λ (t : Bool). cond t archive_frame (frame_at x.state.registers.frames x.state.registers.omf (n - 1 - j)))
      (below-frame x.state.registers.frames x.state.registers.omf (omega (arith, lim.good.frames_to)) lim.fits.omf_below k (n - 1 - j) (omega (arith, lim.live_most)))
      ∙ go (dec_lt j kept)
    where
      go : Dec (j < kept) → cond (ltb (n - 1 - j) k) archive_frame (frame_at x.state.registers.frames x.state.registers.omf (n - 1 - j)) ≡ frame_number new.state (cond (ltb j kept) (in_frame j) in_archive)
      go (yes b) =
          ap (λ (t : Bool). cond t archive_frame (frame_at x.state.registers.frames x.state.registers.omf (n - 1 - j))) (le-ltb (n - 1 - j) k (omega arith))
          ∙ (sym (frame_on j b) ∙ sym (ap (λ (t : Bool). frame_number new.state (cond t (in_frame j) in_archive)) (lt-ltb j kept b)))
      go (no b) =
          ap (λ (t : Bool). cond t archive_frame (frame_at x.state.registers.frames x.state.registers.omf (n - 1 - j))) (lt-ltb (n - 1 - j) k (omega arith))
          ∙ sym (ap (λ (t : Bool). frame_number new.state (cond t (in_frame j) in_archive)) (le-ltb j kept (omega arith)))
  frame-collected in_archive h = archive-stays

  collected-newest : (l : ℕ) → frame_after x.state.registers.frames x.state.registers.omf k (newest_frame x l) ≡ newest_frame new l
  unfolding newest_frame
  collected-newest l =
      frame-collected (found_in n (λ j. is_written (frame_in x j l))) (found_within n (λ j. is_written (frame_in x j l)))
      ∙ (ap (frame_number new.state) (sym (first_found kept k n (λ j. is_written (frame_in x j l)) (λ j. is_written (frame_in new j l)) all (λ j h. ap is_written (stays j l h))))
      ∙ ap (λ (m : ℕ). frame_number new.state (found_in m (λ j. is_written (frame_in new j l)))) (sym live))

  collected-coherent : Coherent new
  unfolding advanced_state
  collected-coherent =
      advanced-all x.state.cache q.sized x.state.registers.frames x.state.registers.omf k (Recent x) (Recent new) q.coherent
      (λ l g b c. (c.0 ∙ sym (collected-latest l), ap (frame_after x.state.registers.frames x.state.registers.omf k) c.1 ∙ collected-newest l))

  collected-cache : shown new.state.cache ≡ shown x.state.cache
  unfolding advanced_state
  collected-cache = advanced-shown x.state.cache q.sized x.state.registers.frames x.state.registers.omf k

  -- the pages of the frames that stay
  collected-pages : WellRing (written_in new) x.state.registers.pages new.state.registers.first new.state.registers.used x.memory.table x.memory.owners
  unfolding advanced_state frame_at
  collected-pages =
      subst
      (λ (f : ℕ). WellRing (written_in new) x.state.registers.pages (nth_page x.state.registers.pages f gone) new.state.registers.used x.memory.table x.memory.owners)
      (sym started)
      (subst
      (λ (u : ℕ). WellRing (written_in new) x.state.registers.pages (nth_page x.state.registers.pages x.state.registers.first gone) (u - gone) x.memory.table x.memory.owners)
      (sym (used-same x.state.registers.used x.state.registers.pages q.pages.used_few))
      (advanced-ring (written_in x) q.bits.lent k below new.memory.groups groups-collected x.state.registers.pages x.state.registers.first x.state.registers.used gone x.memory.table x.memory.owners q.pages parts))

  collected-store : WellStore new
  unfolding advanced_state frame_at
  collected-store =
      record {
        fits = facts-fit _ (record { limits = lim.fits.limits; cmf_below = lim.fits.cmf_below; omf_below = mod-lt _ (omega (arith, below)) });
        long = subst (λ (p : Pieces). enough (settings_in x.state) p ≡ true) (sym (lengths-kept x k gone room (omega (arith, below)) found)) q.long;
        bits = subst (λ (m : ℕ). WellBits (written_in new) x.state.registers.tag m) (sym live) (advanced-well (written_in x) q.bits.lent k below new.memory.groups groups-collected x.state.registers.tag n q.bits);
        pages =
            ring-owners (written_in new) x.state.registers.pages new.state.registers.first new.state.registers.used x.memory.table x.memory.owners new.memory.owners
            (flagged-in x k gone room (omega (arith, below)) found).kept.below collected-pages;
        archive_empty = figure-archive new _ _ collected-figure next-well;
        sized = advanced-sized x.state.cache q.sized x.state.registers.frames x.state.registers.omf k;
        version_line = step-versions new _ _ collected-figure next-well;
        archive_line = step-archive new _ _ collected-figure next-well;
        entries = subst (WellCache (settings_in x.state)) (sym collected-cache) q.entries;
        coherent = collected-coherent;
      }

  pub advanced-followed : Followed store (CHANGE (ADVANCE k)) x (outcome 0) new
  unfolding accepted cache_step advanced_state
  advanced-followed =
      record {
        answer = refl;
        well = collected-store;
        figure = collected-figure;
        cache = collected-cache;
      }

-- The promise: refused, and accepted.
module _ (x : Storage) (k a : ℕ) (p : Pieces) (are : p ≡ lengths_in x.memory) (given : a ≡ admitted (registers_in x.state) p (marked_refusal (live_in x.state) k)) where
  told : a ≡ admitted_in x (marked_refusal (live_in x.state) k)
  told = told_in x (marked_refusal (live_in x.state) k) a p are given

  pub advance-refused : a ≢ 0 → Advances x k a x
  unfolding refusal act_refusal facts_by refused
  advance-refused z = (turned_down x (ON (CHANGE (ADVANCE k))) a told z, λ e. absurd (z e))

  module _ (gone : ℕ) (found : FirstPages x.state.registers x.memory.owners k gone) where
    promised : a ≡ 0 → Promise store (ON (CHANGE (ADVANCE k))) x (outcome 0) (collected-to x k gone)
    unfolding refusal act_refusal facts_by refused registers_step settings_for advanced_state
    promised z =
        let g = frames-room (registers_in x.state) (lengths_in x.memory) a k told z in
        let few : k ≤ x.state.registers.frames = omega (arith, g.k_low, g.room.live_most) in
        let_through x (ON (CHANGE (ADVANCE k))) a told z refl (record { registers = refl; followed = λ q. advanced-followed x q k gone g.k_some (omega (arith, g.k_low)) found }) (lengths-kept x k gone g.room few found) (past-kept x k gone g.room few found)

    -- in the form in which the code has the lists, the registers and the cache's frames
    pub advance-collects : a ≡ 0 → (archive groups owners history : List ℕ) → archive ≡ (collected-to x k gone).memory.archive
        → groups ≡ (collected-to x k gone).memory.groups → owners ≡ (collected-to x k gone).memory.owners → history ≡ (collected-to x k gone).memory.history
        → (t : Registers) (origins : List ℕ) → t ≡ advanced_registers x.state.registers k gone
        → origins ≡ frames_after x.state.registers.frames x.state.registers.omf k x.state.cache.origins
        → Advances x k 0 (storage_of (state_of t (with_origins x.state.cache origins)) archive x.memory.pool groups x.memory.table owners history)
    unfolding advanced_state advanced_cache
    advance-collects z archive groups owners history ea eg eo eh t origins e frames =
        let same : state_of t (with_origins x.state.cache origins) ≡ advanced_state x.state k gone =
        λ i. state_of (e i) (with_origins x.state.cache (frames i))
        in (
          subst (Promise store (ON (CHANGE (ADVANCE k))) x (outcome 0))
              (λ i. storage_of (sym same i) (sym ea i) x.memory.pool (sym eg i) x.memory.table (sym eo i) (sym eh i)) (promised z),
          λ d. record { gone = gone; pages = found; state = same; archive_is = ea; groups_is = eg; owners_is = eo; history_is = eh },
        )
