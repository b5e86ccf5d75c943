-- WRITE keeps its promise: the step on well-formed storage. Assumes nothing.
use mathlib.Core.Path.{◌≡◌, refl, sym, ◌∙◌, ap, ap₂, subst, fun_ext}
use mathlib.Core.Logic.{◌≢◌}
use mathlib.Core.Bool.{Bool, true, false, cond, ◌&&◌, ◌||◌, and-false}
use mathlib.Core.Option
use mathlib.Core.Option.{Option, none, some}
use Prim.Native.Nat.{ℕ, zero, suc, ◌+◌, ◌-◌, ◌*◌, ◌/◌, ◌%◌, ◌≤◌, ◌<◌}
use native.Mathlib.Decide.{ℕ_discrete}
use native.Mathlib.Omega.{arith}
use borrow.Author.Tests.{eq-eqb, ne_eqb}
use lib.Dec.{eqb, ltb}
use lib.ListN.{length, get_or, set, length-set}
use lib.Seq.{get_or-set_same, get_or-set_other}
use Rattle.rules.specs.Settings.{Pieces, elements, enough}
use Rattle.rules.specs.Line.{Line, line_of, offset_of, edit}
use Rattle.rules.specs.Call.Answer.{outcome}
use Rattle.rules.specs.Call.Change.{WRITE}
use Rattle.rules.specs.Call.Act.{CHANGE}
use Rattle.rules.specs.Seen.{accepted}
use Rattle.rules.specs.Figure2.{version_in, found_in, is_written, mrv, written, figure_step, figure_seen}
use Rattle.rules.specs.Figure3.{WellCache, use_line, cache_step}
use Rattle.rules.specs.Promise.{Followed, WellFigure, seen_of}
use Rattle.rules.proofs.Chain.{Placed}
use Rattle.rules.proofs.Width.{widths, in-line}
use Rattle.rules.proofs.Line.{length-edit}
use Rattle.rules.proofs.WellSteps.{write-well}
use Rattle.rules.proofs.WellCache.{use-well}
use lib.Arith.{digits_div, digits_mod}
use Rattle.frames.specs.Circle.{index_of, frame_at}
use Rattle.frames.proofs.Circle.{frame_below, index-frame}
use Rattle.lists.proofs.Lines.{length-written, read-own}
use Rattle.written.specs.Bits.{Written, Asks, effective}
use Rattle.written.specs.Steps.{with_written}
use Rattle.written.proofs.Setting.{set-effective}
use Rattle.written.proofs.Keeping.{set_keeps}
use Rattle.pages.specs.Lines.{page_line, with_page_line}
use Rattle.pages.specs.Table.{needed_at, place_at, entry_of, entry_at}
use Rattle.pages.proofs.Places.{page-other}
use Rattle.pages.proofs.Needs.{effective-needed}
use Rattle.cache.specs.Steps.{placed_in}
use Rattle.cache.specs.Shown.{shown}
use Rattle.cache.proofs.Uses.{placed-sized, placed-shown, placed-all}
use Rattle.versions.specs.Newest.{page_of}
use Rattle.versions.proofs.Finding.{entry-within, place-entry}
use Rattle.storage.specs.Storage.{Storage, storage_of, settings_in, lengths_in, live_in, written_in, version_at, frame_in, archive_in, collected_in, latest_in, frame_number, newest_frame, Recent, Coherent, WellStore, store}
use Rattle.storage.specs.Steps.{used_state, current_frame}
use Rattle.storage.proofs.Limits.{Limits, limits, lent-long}
use Rattle.storage.proofs.Past.{written-long}
use Rattle.storage.proofs.Figures.{AlikeAt, frames-alike, frame-at, well-figure, step-versions, step-archive, figure-archive}
use Rattle.pages.proofs.Flagging.{collected-owner}
use Rattle.storage.proofs.Numbers.{used-number}
use Rattle.storage.proofs.Rows.{current-twice, current-version, current-found}
use Rattle.storage.proofs.Reading.{latest-line}
use Rattle.storage.proofs.Choosing.{Chosen, place, entry, entry-is, cmf-frame, asks-table}

none-off : (m : ℕ) → m - 0 ≡ m
none-off m = omega arith

or-true : (s : Bool) → (s || true) ≡ true
or-true true = refl
or-true false = refl

or-false : (s : Bool) → (s || false) ≡ s
or-false true = refl
or-false false = refl

digits : (m l : ℕ) → m / 8 ≡ l / 8 → m % 8 ≡ l % 8 → m ≡ l
digits m l d e = omega arith

module _ (x : Storage) (q : WellStore x) (wd a v : ℕ) (p : Placed (settings_in x.state) wd a) (b : line_of a < x.state.registers.lines) (used page : ℕ) where
  abbrev l : ℕ
  l = line_of a

  module _ (c : Chosen x q l b page used) where
    abbrev n : ℕ
    n = live_in x.state

    abbrev w : Written
    w = written_in x

    abbrev lim : Limits x
    lim = limits x q.fits

    -- the line with the value written to its most recent version
    abbrev pub content : Line
    content = edit wd (offset_of a) v (latest_in x l)

    abbrev pub stored : Storage
    stored =
        storage_of (used_state x.state used (placed_in x.state.cache l x.state.registers.cmf content)) x.memory.archive (with_page_line x.memory.pool page (l % 8) content)
        (with_written w x.state.registers.tag l (n - 1)) (set x.memory.table (entry x q l b) page) (set x.memory.owners page (place x q l b)) x.memory.history

    whole : length content ≡ 16
    whole =
        let line = latest-line x q l b in
        length-edit wd (offset_of a) v (latest_in x l) (subst (λ (m : ℕ). offset_of a + wd ≤ m) (sym line.long) (in-line (widths wd p.width) a p.aligned)) ∙ line.long

    pool_long : 128 * x.state.registers.pages ≤ length x.memory.pool
    unfolding elements
    pool_long = (lent-long x q.long).pool

    page-room : 128 * page + 128 ≤ length x.memory.pool
    page-room = omega (arith, c.below, pool_long)

    lengths : lengths_in stored.memory ≡ lengths_in x.memory
    lengths =
        ap₂ (λ (m g : ℕ). record { archive = length x.memory.archive; pool = m; groups = g; table = length (set x.memory.table (entry x q l b) page); owners = length (set x.memory.owners page (place x q l b)); history = length x.memory.history })
        (length-written x.memory.pool content (128 * page + 16 * (l % 8)) (omega (arith, page-room)) whole) (written-long w x.state.registers.tag l (n - 1))
        ∙ ap₂ (λ (t o : ℕ). record { archive = length x.memory.archive; pool = length x.memory.pool; groups = length x.memory.groups; table = t; owners = o; history = length x.memory.history })
        (length-set x.memory.table (entry x q l b) page) (length-set x.memory.owners page (place x q l b))

    asks : Asks w l (n - 1)
    asks = record { lent = q.bits.lent; line_below = b; index_below = omega (arith, lim.live_some, lim.live_most) }

    bit-after : (i m : ℕ) → i < x.state.registers.frames → m < x.state.registers.lines → effective (written_in stored) i m ≡ (effective w i m || (eqb i (n - 1) && eqb m l))
    unfolding used_state
    bit-after = set-effective w x.state.registers.tag l (n - 1) asks q.bits.tag_below q.bits.open_tag

    -- A version of another line or frame stays as it was.
    abbrev spot : (index line : ℕ) → ℕ
    spot i m = place_at (frame_at x.state.registers.frames x.state.registers.omf i) (m / 8)

    abbrev spot-entry : (index line : ℕ) → ℕ
    spot-entry i m = entry_at x.state.registers.lines (frame_at x.state.registers.frames x.state.registers.omf i) (m / 8)

    in_block : (m : ℕ) → m < x.state.registers.lines → m / 8 < x.state.registers.lines / 8
    in_block m d = omega (arith, (asks-table x q l b).lines_by)

    spot-frame : (i m : ℕ) → m < x.state.registers.lines → spot i m ≡ place x q l b
        → (frame_at x.state.registers.frames x.state.registers.omf i ≡ current_frame x) × (m / 8 ≡ l / 8)
    spot-frame i m d e = (omega (arith, in_block m d, in_block l b, lim.good.lines_to), omega (arith, in_block m d, in_block l b, lim.good.lines_to))

    spot-same : (i m : ℕ) → i < n → m < x.state.registers.lines → spot i m ≡ place x q l b → (i ≡ n - 1) × (m / 8 ≡ l / 8)
    spot-same i m h d e =
        let omf = q.bits.lent.omf_below in
        let s = spot-frame i m d e in (
          sym (index-frame x.state.registers.frames x.state.registers.omf omf i (omega (arith, lim.live_most))) ∙ (ap (index_of x.state.registers.frames x.state.registers.omf) s.0 ∙ index-frame x.state.registers.frames x.state.registers.omf omf (n - 1) asks.index_below),
          s.1,
        )

    -- places that differ have entries that differ
    entry-same : (i m : ℕ) → m < x.state.registers.lines → spot-entry i m ≡ entry x q l b → spot i m ≡ place x q l b
    entry-same i m d e =
        let frame : frame_at x.state.registers.frames x.state.registers.omf i ≡ current_frame x =
        sym (digits_div (frame_at x.state.registers.frames x.state.registers.omf i) (in_block m d)) ∙ (ap (λ (y : ℕ). y / (x.state.registers.lines / 8)) e ∙ digits_div (current_frame x) (in_block l b))
        in
        let block : m / 8 ≡ l / 8 =
        sym (digits_mod (frame_at x.state.registers.frames x.state.registers.omf i) (in_block m d)) ∙ (ap (λ (y : ℕ). y % (x.state.registers.lines / 8)) e ∙ digits_mod (current_frame x) (in_block l b))
        in
        ap₂ place_at frame block

    spot-at : (i m : ℕ) → m < x.state.registers.lines → entry_of w (spot i m) ≡ spot-entry i m
    spot-at i m d = place-entry w (frame_at x.state.registers.frames x.state.registers.omf i) m lim.good.lines_to d

    spot-needed : (i m : ℕ) → i < n → m < x.state.registers.lines → effective w i m ≡ true → needed_at w (spot i m) ≡ true
    spot-needed i m h d e = effective-needed w i m lim.good.lines_to q.bits.lent.omf_below (omega (arith, lim.live_most)) (in_block m d) e

    abbrev old : (index line : ℕ) → ℕ
    old i m = get_or x.memory.table (spot-entry i m) 0

    table-room : entry x q l b < length x.memory.table
    table-room =
        omega (
          arith,
          entry-within x.state.registers.lines x.state.registers.frames (current_frame x) l (asks-table x q l b).lines_by (frame_below x.state.registers.frames x.state.registers.omf q.bits.lent.omf_below (n - 1)) b,
          (asks-table x q l b).table_long,
        )

    version-after : (i m : ℕ) → i < n → m < x.state.registers.lines → effective w i m ≡ true → (i ≡ n - 1 → m ≡ l → ⊥) → version_at stored i m ≡ version_at x i m
    unfolding version_at used_state page_of
    version-after i m h d e other = go (ℕ_discrete (spot-entry i m) (entry x q l b))
      where
        go : Dec (spot-entry i m ≡ entry x q l b)
            → page_line (with_page_line x.memory.pool page (l % 8) content) (get_or (set x.memory.table (entry x q l b) page) (spot-entry i m) 0) (m % 8) ≡ page_line x.memory.pool (old i m) (m % 8)
        go (yes s) =
            let here = entry-same i m d s in
            let same = spot-same i m h d here in
            let own : old i m ≡ page = ap (λ (y : ℕ). get_or x.memory.table y 0) s ∙ c.own (ap (needed_at w) (sym here) ∙ spot-needed i m h d e) in
            ap (λ (y : ℕ). page_line (with_page_line x.memory.pool page (l % 8) content) y (m % 8)) (ap (λ (y : ℕ). get_or (set x.memory.table (entry x q l b) page) y 0) s ∙ get_or-set_same x.memory.table (entry x q l b) page 0 table-room)
            ∙ (page-other x.memory.pool content page (l % 8) page (m % 8) page-room whole (omega arith) (omega arith) (λ _ t. other same.0 (digits m l same.1 t))
            ∙ ap (λ (y : ℕ). page_line x.memory.pool y (m % 8)) (sym own))
        go (no s) =
            ap (λ (y : ℕ). page_line (with_page_line x.memory.pool page (l % 8) content) y (m % 8)) (get_or-set_other x.memory.table (entry x q l b) (spot-entry i m) page 0 s)
            ∙ page-other x.memory.pool content page (l % 8) (old i m) (m % 8) page-room whole (omega arith) (omega arith)
            (λ t _.
            c.apart (spot i m) (omega (arith, in_block m d, lim.good.lines_to, frame_below x.state.registers.frames x.state.registers.omf q.bits.lent.omf_below i)) (spot-needed i m h d e)
            (λ z. s (sym (spot-at i m d) ∙ (ap (entry_of w) z ∙ entry-is x q l b))) (ap (λ (y : ℕ). get_or x.memory.table y 0) (spot-at i m d) ∙ t))

    -- The line written has its version in CMF,
    own-bit : effective (written_in stored) (n - 1) l ≡ true
    own-bit =
        bit-after (n - 1) l asks.index_below b
        ∙ (ap₂ (λ (s t : Bool). effective w (n - 1) l || (s && t)) (eq-eqb (n - 1) (n - 1) refl) (eq-eqb l l refl) ∙ or-true (effective w (n - 1) l))

    own-version : version_at stored (n - 1) l ≡ content
    unfolding version_at used_state page_of
    own-version =
        ap (λ (y : ℕ). page_line (with_page_line x.memory.pool page (l % 8) content) y (l % 8)) (get_or-set_same x.memory.table (entry x q l b) page 0 table-room)
        ∙ read-own x.memory.pool content (128 * page + 16 * (l % 8)) (omega (arith, page-room)) whole

    own-frame : frame_in stored 0 l ≡ some content
    unfolding used_state
    own-frame =
        frame-at stored 0 l lim.live_some b
        ∙ ap₂ (λ (t : Bool) (y : Line). cond t (some y) none) (ap (λ (i : ℕ). effective (written_in stored) i l) first ∙ own-bit) (ap (λ (i : ℕ). version_at stored i l) first ∙ own-version)
      where
        first : n - 1 - 0 ≡ n - 1
        first = none-off (n - 1)

    -- and every other frame and line is as it was.
    other-alike : (i m : ℕ) → i < n → m < x.state.registers.lines → (i ≡ n - 1 → m ≡ l → ⊥) → AlikeAt stored x i i m
    other-alike i m h d other =
        record {
          bit = bit-after i m (omega (arith, lim.live_most)) d ∙ (ap (λ (t : Bool). effective w i m || t) (off (ℕ_discrete i (n - 1)) (ℕ_discrete m l)) ∙ or-false (effective w i m));
          version = λ e. version-after i m h d e other;
        }
      where
        off : Dec (i ≡ n - 1) → Dec (m ≡ l) → (eqb i (n - 1) && eqb m l) ≡ false
        off (yes s) (yes t) = absurd (other s t)
        off (yes s) (no t) = ap (λ (y : Bool). eqb i (n - 1) && y) (ne_eqb m l t) ∙ and-false (eqb i (n - 1))
        off (no s) t = ap (λ (y : Bool). y && eqb m l) (ne_eqb i (n - 1) s)

    other-frame : (j m : ℕ) → (j ≡ 0 → m ≡ l → ⊥) → frame_in stored j m ≡ frame_in x j m
    unfolding used_state
    other-frame j m other =
        frames-alike stored x j j m refl (λ h. h) (λ h. h)
        (λ h _ d. other-alike (n - 1 - j) m (omega arith) d (λ s t. other (newest n j h s) t))
      where
        newest : (n j : ℕ) → j < n → n - 1 - j ≡ n - 1 → j ≡ 0
        newest n j h s = omega arith

    -- Figure 2's WRITE
    stored-frame : (j m : ℕ) → frame_in stored j m ≡ written wd a v (store.figure x) j m
    unfolding written mrv latest_in
    stored-frame zero m = go (ℕ_discrete m l)
      where
        go : Dec (m ≡ l) → frame_in stored 0 m ≡ cond (eqb l m) (some (edit wd (offset_of a) v (Option.get_or (frame_in x 0 m) (latest_in x m)))) (frame_in x 0 m)
        go (yes s) =
            ap (frame_in stored 0) s
            ∙ (own-frame
            ∙ (ap (λ (y : Line). some (edit wd (offset_of a) v y)) (sym (current-twice n (λ j. frame_in x j l) (archive_in x l) lim.live_some))
            ∙ (sym (ap (λ (t : Bool). cond t (some (edit wd (offset_of a) v (Option.get_or (frame_in x 0 l) (latest_in x l)))) (frame_in x 0 l)) (eq-eqb l l refl))
            ∙ ap (λ (y : ℕ). cond (eqb l y) (some (edit wd (offset_of a) v (Option.get_or (frame_in x 0 y) (latest_in x y)))) (frame_in x 0 y)) (sym s))))
        go (no s) =
            other-frame 0 m (λ _ t. s t)
            ∙ sym (ap (λ (t : Bool). cond t (some (edit wd (offset_of a) v (Option.get_or (frame_in x 0 m) (latest_in x m)))) (frame_in x 0 m)) (ne_eqb l m (λ t. s (sym t))))
    stored-frame (suc j) m = other-frame (suc j) m (λ s _. omega arith)

    stored-collected : (m : ℕ) → collected_in stored m ≡ collected_in x m
    unfolding collected_in used_state
    stored-collected m = ap (λ (t : Bool). ltb m x.state.registers.lines && t) (collected-owner x.state.registers.pages x.memory.owners _ _ m c.below)

    stored-figure : store.figure stored ≡ figure_step (CHANGE (WRITE wd a v)) (store.registers x) (store.figure x)
    unfolding figure_step used_state archive_in
    stored-figure =
        λ i. record { live = n; frame = λ j m. stored-frame j m i; archive = archive_in x; collected = λ m. stored-collected m i }

    next-well : WellFigure (settings_in x.state) (figure_step (CHANGE (WRITE wd a v)) (store.registers x) (store.figure x))
    unfolding seen_of figure_seen
    next-well = write-well (settings_in x.state) (store.registers x) (store.figure x) (well-figure x q) wd a v p c.fewer

    -- the most recent version of the line written, and of the others
    own-latest : latest_in stored l ≡ content
    unfolding latest_in used_state
    own-latest = current-version n (λ j. frame_in stored j l) (archive_in stored l) content lim.live_some own-frame

    own-newest : newest_frame stored l ≡ x.state.registers.cmf
    unfolding newest_frame frame_number used_state is_written
    own-newest =
        ap (frame_number stored.state) (current-found n (λ j. is_written (frame_in stored j l)) lim.live_some (ap is_written own-frame))
        ∙ (ap (frame_at x.state.registers.frames x.state.registers.omf) (none-off (n - 1)) ∙ cmf-frame x q l b)

    same_live : live_in stored.state ≡ n
    unfolding used_state
    same_live = refl

    module _ (m : ℕ) (other : m ≢ l) where
      other-latest : latest_in stored m ≡ latest_in x m
      unfolding latest_in used_state archive_in
      other-latest = ap (λ (row : ℕ → Option Line). version_in n row (archive_in x m)) (fun_ext (λ j. other-frame j m (λ _ t. other t)))

      other-newest : newest_frame stored m ≡ newest_frame x m
      unfolding newest_frame
      other-newest =
          ap₂ (λ (k : ℕ) (row : ℕ → Option Line). frame_number stored.state (found_in k (λ j. is_written (row j)))) same_live (fun_ext (λ j. other-frame j m (λ _ t. other t)))
          ∙ used-number x.state used (placed_in x.state.cache l x.state.registers.cmf content) (found_in n (λ j. is_written (frame_in x j m)))

    stored-cache : shown stored.state.cache ≡ use_line l (shown x.state.cache)
    unfolding used_state
    stored-cache = placed-shown x.state.cache q.sized l x.state.registers.cmf content whole

    stored-coherent : Coherent stored
    unfolding used_state
    stored-coherent =
        placed-all x.state.cache q.sized l x.state.registers.cmf content whole (Recent x) (Recent stored) (settings_in x.state) q.entries q.coherent (sym own-latest, sym own-newest)
        (λ m g y other r. (r.0 ∙ sym (other-latest m other), r.1 ∙ sym (other-newest m other)))

    stored-well : WellStore stored
    unfolding used_state
    stored-well =
        record {
          fits = q.fits;
          long = subst (λ (r : Pieces). enough (settings_in x.state) r ≡ true) (sym lengths) q.long;
          bits = set_keeps w x.state.registers.tag n l (n - 1) q.bits asks (omega (arith, lim.live_some));
          pages = c.ring;
          archive_empty = figure-archive stored _ _ stored-figure next-well;
          sized = placed-sized x.state.cache q.sized l x.state.registers.cmf content whole;
          version_line = step-versions stored _ _ stored-figure next-well;
          archive_line = step-archive stored _ _ stored-figure next-well;
          entries = subst (WellCache (settings_in x.state)) (sym stored-cache) (use-well (settings_in x.state) l (shown x.state.cache) b q.entries);
          coherent = stored-coherent;
        }

    pub stored-followed : Followed store (CHANGE (WRITE wd a v)) x (outcome 0) stored
    unfolding accepted cache_step used_state
    stored-followed =
        record {
          answer = refl;
          well = stored-well;
          figure = stored-figure;
          cache = stored-cache;
        }
