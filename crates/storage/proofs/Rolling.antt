-- ROLLBACK keeps its promise. Assumes nothing.
use mathlib.Core.Path.{◌≡◌, refl, sym, ◌∙◌, ap, ap₂, subst, fun_ext}
use mathlib.Core.Logic.{◌≢◌}
use mathlib.Core.Bool.{Bool, true, false, not, ◌&&◌, and-true}
use mathlib.Core.Option.{Option}
use mathlib.Core.List.{List}
use Prim.Native.Nat.{ℕ, ◌+◌, ◌-◌, ◌*◌, ◌/◌, ◌%◌, ◌≤◌, ◌<◌}
use native.Mathlib.Nat.{mod-lt}
use native.Mathlib.Decide.{dec_lt}
use native.Mathlib.Omega.{arith}
use borrow.Author.Tests.{lt-ltb, le-ltb}
use lib.Dec.{ltb}
use lib.ListN.{length, drop}
use Rattle.rules.specs.Settings.{Pieces, elements, enough}
use Rattle.rules.specs.Line.{Line}
use Rattle.rules.specs.Call.{Place, refused}
use Rattle.rules.specs.Call.Place.{in_frame, in_archive}
use Rattle.rules.specs.Call.Answer.{outcome}
use Rattle.rules.specs.Call.Change.{ROLLBACK}
use Rattle.rules.specs.Call.Act.{CHANGE}
use Rattle.rules.specs.Call.Call.{ON}
use Rattle.rules.specs.Seen.{accepted, dropped}
use Rattle.rules.specs.Refusal.{marked_refusal, refusal, act_refusal, facts_by}
use Rattle.rules.specs.Figure2.{figure_step, registers_step, figure_seen, version_in, found_in, is_written}
use Rattle.rules.specs.Figure3.{WellCache, cache_step}
use Rattle.rules.specs.Promise.{Promise, Followed, settings_for, WellFigure, seen_of}
use Rattle.rules.proofs.Registers.{facts-fit, live-rollback}
use Rattle.rules.proofs.WellSteps.{rollback-well}
use Rattle.rules.proofs.WellCache.{forget-well}
use Rattle.frames.specs.Circle.{frame_at}
use Rattle.written.specs.Bits.{effective}
use Rattle.written.specs.Steps.{RolledBack}
use Rattle.written.specs.Well.{WellBits}
use Rattle.written.proofs.Rolling.{rolled-effective, rolled-well}
use Rattle.pages.specs.Ring.{WellRing}
use Rattle.pages.proofs.Keeping.{rolled-ring}
use Rattle.cache.specs.Entries.{held_line}
use Rattle.cache.specs.Steps.{is_dropped, flags_after, with_flags, forgotten}
use Rattle.cache.specs.Shown.{shown}
use Rattle.cache.proofs.Frames.{forgotten-sized, forgotten-shown, forgotten-all}
use Rattle.storage.specs.declared.Registers.{Registers}
use Rattle.storage.specs.declared.State.{State}
use Rattle.versions.specs.Newest.{page_of}
use Rattle.storage.specs.Storage.{Storage, state_of, storage_of, memory_of, settings_in, registers_in, lengths_in, Recent, Coherent, live_in, written_in, index_back, frame_in, archive_in, collected_in, version_at, latest_in, frame_number, newest_frame, WellStore, store}
use Rattle.storage.specs.Admit.{admitted}
use Rattle.storage.specs.Steps.{PagesBelow, rolled_registers, rolled_state, RolledTo}
use Rattle.storage.specs.Clauses.{RollsBack}
use Rattle.storage.proofs.Rings.{ring-found}
use Rattle.storage.proofs.Limits.{Limits, limits}
use Rattle.storage.proofs.Chains.{frames-room}
use Rattle.storage.proofs.Looking.{admitted_in, told_in, turned_down, let_through}
use Rattle.storage.proofs.Figures.{AlikeAt, frames-alike, well-figure, step-versions, step-archive}
use Rattle.storage.proofs.Past.{rolled-groups-long, rolled-groups-past, rolled-history-long, rolled-history-past}
use Rattle.storage.proofs.Numbers.{dropped-frame}
use Rattle.storage.proofs.Rows.{shift, Within, found_within, kept-found, kept-version}

module _ (x : Storage) (q : WellStore x) (k : ℕ) (low : k ≤ live_in x.state - 1) (groups history : List ℕ) (next left : ℕ)
    (r : RolledBack (written_in x) x.state.registers.tag (live_in x.state - k) groups history next) (found : PagesBelow x.state.registers x.memory.owners (live_in x.state - k) left) where
  abbrev n : ℕ
  n = live_in x.state

  abbrev kept : ℕ
  kept = n - k

  abbrev pub dropped-to : Storage
  dropped-to =
      record {
        state = rolled_state x.state k next left;
        memory = record { archive = x.memory.archive; pool = x.memory.pool; groups = groups; table = x.memory.table; owners = x.memory.owners; history = history };
      }

  abbrev lim : Limits x
  lim = limits x q.fits

  live : live_in dropped-to.state ≡ kept
  unfolding rolled_state
  live = live-rollback (registers_in x.state) lim.fits k low

  lengths : lengths_in dropped-to.memory ≡ lengths_in x.memory
  lengths =
      ap₂ (λ (g h : ℕ). record { archive = length x.memory.archive; pool = length x.memory.pool; groups = g; table = length x.memory.table; owners = length x.memory.owners; history = h })
      (rolled-groups-long (written_in x) x.state.registers.tag kept groups history next r q.bits.tag_below)
      (rolled-history-long (written_in x) x.state.registers.tag kept groups history next r q.bits.tag_below)

  -- the frames that stay lie k marks nearer
  nearer : (j : ℕ) → index_back dropped-to.state j ≡ index_back x.state (k + j)
  nearer j = ap (λ (m : ℕ). m - 1 - j) live ∙ index n
    where
      index : (n : ℕ) → n - k - 1 - j ≡ n - 1 - (k + j)
      index n = omega arith

  rolled-alike : (i l : ℕ) → i < kept → l < x.state.registers.lines → AlikeAt dropped-to x i i l
  unfolding version_at rolled_state page_of
  rolled-alike i l h b =
      record {
        bit =
            rolled-effective (written_in x) x.state.registers.tag kept n q.bits groups history next r i l (omega (arith, lim.live_most)) b
            ∙ (ap (λ (t : Bool). effective (written_in x) i l && t) (lt-ltb i kept h) ∙ and-true (effective (written_in x) i l));
        version = λ _. refl;
      }

  rolled-frame : (j l : ℕ) → frame_in dropped-to j l ≡ frame_in x (k + j) l
  unfolding rolled_state
  rolled-frame j l =
      frames-alike dropped-to x j (k + j) l refl (λ h. omega (arith, live)) (λ h. omega (arith, live))
      (λ h d b. subst (λ (i : ℕ). AlikeAt dropped-to x i (index_back x.state (k + j)) l) (sym (nearer j)) (rolled-alike (index_back x.state (k + j)) l (omega arith) b))

  rolled-figure : store.figure dropped-to ≡ figure_step (CHANGE (ROLLBACK k)) (store.registers x) (store.figure x)
  unfolding figure_step rolled_state archive_in collected_in
  rolled-figure =
      ap₂ (λ (m : ℕ) (f : ℕ → ℕ → Option Line). record { live = m; frame = f; archive = archive_in x; collected = collected_in x }) live (fun_ext (λ j. fun_ext (λ l. rolled-frame j l)))

  -- A line's most recent version lay in a dropped frame just if its entry's frame says so.
  abbrev origin : ℕ → Place
  origin l = found_in n (λ j. is_written (frame_in x j l))

  gone-number : (o : Place) → Within n o → is_dropped x.state.registers.frames x.state.registers.omf kept (frame_number x.state o) ≡ dropped k o
  unfolding dropped is_dropped frame_number
  gone-number (in_frame j) h =
      dropped-frame x.state.registers.frames x.state.registers.omf (omega (arith, lim.good.frames_to)) lim.fits.omf_below kept (n - 1 - j) (omega (arith, lim.live_most))
      ∙ turned (dec_lt j k)
    where
      turned : Dec (j < k) → not (ltb (n - 1 - j) kept) ≡ ltb j k
      turned (yes b) = ap not (le-ltb (n - 1 - j) kept (omega arith)) ∙ sym (lt-ltb j k b)
      turned (no b) = ap not (lt-ltb (n - 1 - j) kept (omega arith)) ∙ sym (le-ltb j k (omega arith))
  gone-number in_archive h = refl

  gone-frame : (l : ℕ) → is_dropped x.state.registers.frames x.state.registers.omf kept (newest_frame x l) ≡ dropped k (origin l)
  unfolding newest_frame
  gone-frame l = gone-number (origin l) (found_within n (λ j. is_written (frame_in x j l)))

  rolled-cache : shown dropped-to.state.cache ≡ cache_step (seen_of store x) (CHANGE (ROLLBACK k)) (shown x.state.cache)
  unfolding rolled_state cache_step seen_of figure_seen
  rolled-cache =
      forgotten-shown x.state.cache q.sized x.state.registers.frames x.state.registers.omf kept (λ l. dropped k (origin l))
      (λ e b v. sym (ap (is_dropped x.state.registers.frames x.state.registers.omf kept) (q.coherent e v).1 ∙ gone-frame (held_line x.state.cache e)))

  -- The other lines are found as before.
  number-nearer : (o : Place) → Within kept o → frame_number dropped-to.state o ≡ frame_number x.state (shift k o)
  unfolding frame_number shift rolled_state
  number-nearer (in_frame j) h = ap (frame_at x.state.registers.frames x.state.registers.omf) (nearer j)
  number-nearer in_archive h = refl

  module _ (l : ℕ) (stays : dropped k (origin l) ≡ false) where
    all : n ≡ k + kept
    all = omega arith

    rolled-latest : latest_in dropped-to l ≡ latest_in x l
    unfolding latest_in rolled_state archive_in
    rolled-latest =
        ap₂ (λ (m : ℕ) (row : ℕ → Option Line). version_in m row (archive_in x l)) live (fun_ext (λ j. rolled-frame j l))
        ∙ sym (kept-version k kept n (λ j. frame_in x j l) (λ j. frame_in x (k + j) l) (archive_in x l) all (λ j. refl) stays)

    rolled-newest : newest_frame dropped-to l ≡ newest_frame x l
    unfolding newest_frame
    rolled-newest =
        ap₂ (λ (m : ℕ) (row : ℕ → Option Line). frame_number dropped-to.state (found_in m (λ j. is_written (row j)))) live (fun_ext (λ j. rolled-frame j l))
        ∙ (number-nearer (found_in kept (λ j. is_written (frame_in x (k + j) l))) (found_within kept (λ j. is_written (frame_in x (k + j) l)))
        ∙ ap (frame_number x.state) (sym (kept-found k kept n (λ j. is_written (frame_in x j l)) (λ j. is_written (frame_in x (k + j) l)) all (λ j. refl) stays)))

  rolled-entries : WellCache (settings_in x.state) (shown dropped-to.state.cache)
  unfolding cache_step seen_of figure_seen
  rolled-entries =
      subst (WellCache (settings_in x.state)) (sym rolled-cache)
      (forget-well (settings_in x.state) (λ l. dropped k (origin l)) (shown x.state.cache) q.entries)

  rolled-coherent : Coherent dropped-to
  unfolding rolled_state
  rolled-coherent =
      forgotten-all x.state.cache q.sized x.state.registers.frames x.state.registers.omf kept (Recent x) (Recent dropped-to) q.coherent
      (λ l g b h c.
      let stays = sym (gone-frame l) ∙ (sym (ap (is_dropped x.state.registers.frames x.state.registers.omf kept) c.1) ∙ h) in
      (c.0 ∙ sym (rolled-latest l stays), c.1 ∙ sym (rolled-newest l stays)))

  next-well : WellFigure (settings_in x.state) (figure_step (CHANGE (ROLLBACK k)) (store.registers x) (store.figure x))
  next-well = rollback-well (settings_in x.state) (store.registers x) (store.figure x) (well-figure x q) k low

  -- the pages of the frames that stay
  rolled-pages : WellRing (written_in dropped-to) x.state.registers.pages x.state.registers.first left x.memory.table x.memory.owners
  unfolding rolled_state
  rolled-pages =
      rolled-ring (written_in x) x.state.registers.tag kept n q.bits groups history next r x.state.registers.pages x.state.registers.first x.state.registers.used left
      x.memory.table x.memory.owners q.pages (ring-found x q kept left found)

  rolled-store : WellStore dropped-to
  unfolding rolled_state
  rolled-store =
      record {
        fits = facts-fit _ (record { limits = lim.fits.limits; cmf_below = mod-lt _ (omega (arith, lim.fits.omf_below)); omf_below = lim.fits.omf_below });
        long = subst (λ (p : Pieces). enough (settings_in x.state) p ≡ true) (sym lengths) q.long;
        bits = subst (λ (m : ℕ). WellBits (written_in dropped-to) next m) (sym live) (rolled-well (written_in x) x.state.registers.tag kept n q.bits groups history next r (omega (arith, lim.live_most, lim.good.frames_to)));
        pages = rolled-pages;
        archive_empty = q.archive_empty;
        sized = forgotten-sized x.state.cache q.sized x.state.registers.frames x.state.registers.omf kept;
        version_line = step-versions dropped-to _ _ rolled-figure next-well;
        archive_line = step-archive dropped-to _ _ rolled-figure next-well;
        entries = rolled-entries;
        coherent = rolled-coherent;
      }

  pub rolled-followed : Followed store (CHANGE (ROLLBACK k)) x (outcome 0) dropped-to
  unfolding accepted rolled_state
  rolled-followed =
      record {
        answer = refl;
        well = rolled-store;
        figure = rolled-figure;
        cache = rolled-cache;
      }

-- The promise: refused, and accepted. The tag given to the history is the state's, cut to its 8 bits.
module _ (x : Storage) (k a : ℕ) (p : Pieces) (are : p ≡ lengths_in x.memory) (given : a ≡ admitted (registers_in x.state) p (marked_refusal (live_in x.state) k)) where
  told : a ≡ admitted_in x (marked_refusal (live_in x.state) k)
  told = told_in x (marked_refusal (live_in x.state) k) a p are given

  pub rollback-refused : a ≢ 0 → RollsBack x k a x
  unfolding refusal act_refusal facts_by refused
  rollback-refused z = (turned_down x (ON (CHANGE (ROLLBACK k))) a told z, λ e. absurd (z e))

  module _ (z : a ≡ 0) (live : ℕ) (live-is : live ≡ live_in x.state) (groups history : List ℕ) (next left : ℕ)
      (r : RolledBack (written_in x) (x.state.registers.tag % 256) (live - k) groups history next) (found : PagesBelow x.state.registers x.memory.owners (live - k) left) where
    kept-is : live - k ≡ live_in x.state - k
    kept-is = ap (λ (n : ℕ). n - k) live-is

    small : x.state.registers.tag % 256 < 256
    small = omega arith

    exact : RolledBack (written_in x) (x.state.registers.tag % 256) (live_in x.state - k) groups history next
    exact = subst (λ (n : ℕ). RolledBack (written_in x) (x.state.registers.tag % 256) n groups history next) kept-is r

    left_is : PagesBelow x.state.registers x.memory.owners (live_in x.state - k) left
    left_is = subst (λ (n : ℕ). PagesBelow x.state.registers x.memory.owners n left) kept-is found

    abbrev pub after : State → Storage
    after s = storage_of s x.memory.archive x.memory.pool groups x.memory.table x.memory.owners history

    followed : WellStore x → Followed store (CHANGE (ROLLBACK k)) x (outcome 0) (after (rolled_state x.state k next left))
    followed q =
        let tag : x.state.registers.tag % 256 ≡ x.state.registers.tag = omega (arith, q.bits.tag_below) in
        rolled-followed x q k (omega (arith, (frames-room (registers_in x.state) (lengths_in x.memory) a k told z).k_low)) groups history next left
        (subst (λ (t : ℕ). RolledBack (written_in x) t (live_in x.state - k) groups history next) tag exact) left_is

    promised : Promise store (ON (CHANGE (ROLLBACK k))) x (outcome 0) (after (rolled_state x.state k next left))
    unfolding refusal act_refusal facts_by refused registers_step settings_for elements rolled_state
    promised =
        let_through x (ON (CHANGE (ROLLBACK k))) a told z refl (record { registers = refl; followed = followed })
        (ap₂ (λ (g h : ℕ). record { archive = length x.memory.archive; pool = length x.memory.pool; groups = g; table = length x.memory.table; owners = length x.memory.owners; history = h })
        (rolled-groups-long (written_in x) (x.state.registers.tag % 256) (live - k) groups history next r small)
        (rolled-history-long (written_in x) (x.state.registers.tag % 256) (live - k) groups history next r small))
        (ap₂
        (λ (g h : List ℕ). memory_of (drop (16 * x.state.registers.lines) x.memory.archive) (drop (128 * x.state.registers.pages) x.memory.pool) g
        (drop (x.state.registers.frames * (x.state.registers.lines / 8)) x.memory.table) (drop (x.state.registers.pages + x.state.registers.lines) x.memory.owners) h)
        (rolled-groups-past (written_in x) (x.state.registers.tag % 256) (live - k) groups history next r small)
        (rolled-history-past (written_in x) (x.state.registers.tag % 256) (live - k) groups history next r small))

    -- in the form in which the code has the registers and the valid flags
    pub rollback-drops : (t : Registers) (valid : List ℕ) → t ≡ rolled_registers x.state.registers k next left
        → valid ≡ flags_after x.state.cache.origins x.state.registers.frames x.state.registers.omf (live - k) x.state.cache.valid
        → RollsBack x k 0 (after (state_of t (with_flags x.state.cache valid)))
    unfolding rolled_state forgotten
    rollback-drops t valid e flags =
        let same : state_of t (with_flags x.state.cache valid) ≡ rolled_state x.state k next left =
        λ i. state_of (e i) (with_flags x.state.cache ((flags ∙ ap (λ (n : ℕ). flags_after x.state.cache.origins x.state.registers.frames x.state.registers.omf n x.state.cache.valid) kept-is) i))
        in (
          subst (λ (s : State). Promise store (ON (CHANGE (ROLLBACK k))) x (outcome 0) (after s)) (sym same) promised,
          λ d. subst (λ (s : State). RolledTo x.state x.memory.groups x.memory.owners x.memory.history k s groups history) (sym same) (record { state = refl; pages = left_is; memory = exact }),
        )
