-- MARK keeps its promise. Assumes nothing.
use mathlib.Core.Path.{◌≡◌, refl, sym, ◌∙◌, ap, ap₂, subst, fun_ext}
use mathlib.Core.Logic.{◌≢◌}
use mathlib.Core.Bool.{Bool, false, cond, ◌&&◌, and-false}
use mathlib.Core.Option.{Option, none, some}
use Prim.Native.Nat.{ℕ, zero, suc, ◌+◌, ◌-◌, ◌%◌, ◌<◌}
use native.Mathlib.Nat.{mod-lt}
use native.Mathlib.Numerals.{add-one}
use native.Mathlib.Decide.{dec_lt}
use native.Mathlib.Omega.{arith}
use borrow.Author.Tests.{ltb-true, lt-ltb, le-ltb}
use lib.Dec.{ltb}
use Rattle.rules.specs.Settings.{Pieces}
use Rattle.rules.specs.Line.{Line}
use Rattle.rules.specs.Call.{Place, refused}
use Rattle.rules.specs.Call.Place.{in_frame, in_archive}
use Rattle.rules.specs.Call.Answer.{outcome}
use Rattle.rules.specs.Call.Change.{MARK}
use Rattle.rules.specs.Call.Act.{CHANGE}
use Rattle.rules.specs.Call.Call.{ON}
use Rattle.rules.specs.Seen.{accepted, further}
use Rattle.rules.specs.Refusal.{unless, refusal, act_refusal, facts_by}
use Rattle.rules.specs.Figure2.{marked, figure_step, registers_step, version_in, found_in, is_written}
use Rattle.rules.specs.Figure3.{cache_step}
use Rattle.rules.specs.Promise.{Promise, Followed, WellFigure, settings_for}
use Rattle.rules.proofs.Chain.{passed}
use Rattle.rules.proofs.Registers.{facts-fit, live-mark}
use Rattle.rules.proofs.WellSteps.{mark-well}
use Rattle.frames.specs.Circle.{frame_at}
use Rattle.written.specs.Bits.{effective}
use Rattle.written.specs.Well.{WellBits}
use Rattle.written.proofs.Keeping.{mark-keeps}
use Rattle.cache.specs.Entries.{held_line}
use Rattle.storage.specs.declared.Registers.{Registers}
use Rattle.versions.specs.Newest.{page_of}
use Rattle.storage.specs.Storage.{Storage, state_of, settings_in, registers_in, lengths_in, live_in, written_in, frame_in, archive_in, collected_in, version_at, latest_in, frame_number, newest_frame, WellStore, store}
use Rattle.storage.specs.Admit.{admitted}
use Rattle.storage.specs.Steps.{registers_with, marked_registers, marked_state}
use Rattle.storage.specs.Clauses.{Marks}
use Rattle.storage.proofs.Limits.{Limits, limits}
use Rattle.storage.proofs.Chains.{admitted-rest}
use Rattle.storage.proofs.Figures.{well-figure, step-versions, step-archive}
use Rattle.storage.proofs.Looking.{admitted_in, told_in, turned_down, let_through}

module _ (x : Storage) (q : WellStore x) (room : live_in x.state < x.state.registers.frames) where
  abbrev n : ℕ
  n = live_in x.state

  abbrev pub opened : Storage
  opened = record { state = marked_state x.state; memory = x.memory }

  abbrev lim : Limits x
  lim = limits x q.fits

  live : live_in opened.state ≡ n + 1
  unfolding marked_state
  live = live-mark (registers_in x.state) lim.fits room

  -- the frame that opens has no written bit, and the others lie one mark further back
  abbrev shape : (live back line : ℕ) → Option Line
  shape m j l =
      cond (ltb j m && (ltb l x.state.registers.lines && effective (written_in x) (m - 1 - j) l)) (some (version_at x (m - 1 - j) l)) none

  shape-first : (l : ℕ) → shape (n + 1) 0 l ≡ none
  shape-first l = ap (λ (t : Bool). cond (ltb 0 (n + 1) && t) (some (version_at x (n + 1 - 1 - 0) l)) none) (go (dec_lt l x.state.registers.lines)) ∙ ap (λ (t : Bool). cond t (some (version_at x (n + 1 - 1 - 0) l)) none) (and-false (ltb 0 (n + 1)))
    where
      go : Dec (l < x.state.registers.lines) → (ltb l x.state.registers.lines && effective (written_in x) (n + 1 - 1 - 0) l) ≡ false
      go (yes h) =
          ap₂ (λ (t : Bool) (i : ℕ). t && effective (written_in x) i l) (lt-ltb l x.state.registers.lines h) (index n)
          ∙ q.bits.only_live n l (omega arith) room h
        where
          index : (n : ℕ) → n + 1 - 1 - 0 ≡ n
          index n = omega arith
      go (no h) = ap (λ (t : Bool). t && effective (written_in x) (n + 1 - 1 - 0) l) (le-ltb l x.state.registers.lines (omega arith))

  shape-next : (j l : ℕ) → shape (n + 1) (suc j) l ≡ shape n j l
  shape-next j l =
      ap₂ (λ (t : Bool) (i : ℕ). cond (t && (ltb l x.state.registers.lines && effective (written_in x) i l)) (some (version_at x i l)) none) (test (dec_lt j n))
      (index n j)
    where
      index : (n j : ℕ) → n + 1 - 1 - suc j ≡ n - 1 - j
      index n j = omega arith

      test : Dec (j < n) → ltb (suc j) (n + 1) ≡ ltb j n
      test (yes h) = lt-ltb (suc j) (n + 1) (omega arith) ∙ sym (lt-ltb j n h)
      test (no h) = le-ltb (suc j) (n + 1) (omega arith) ∙ sym (le-ltb j n (omega arith))

  opened_frame : (j l : ℕ) → frame_in opened j l ≡ marked (store.figure x) j l
  unfolding frame_in marked marked_state version_at page_of
  opened_frame zero l = ap (λ (m : ℕ). shape m 0 l) live ∙ shape-first l
  opened_frame (suc j) l = ap (λ (m : ℕ). shape m (suc j) l) live ∙ shape-next j l

  opened-figure : store.figure opened ≡ figure_step (CHANGE MARK) (store.registers x) (store.figure x)
  unfolding figure_step marked_state archive_in collected_in
  opened-figure =
      ap₂ (λ (m : ℕ) (f : ℕ → ℕ → Option Line). record { live = m; frame = f; archive = archive_in x; collected = collected_in x }) live (fun_ext (λ j. fun_ext (λ l. opened_frame j l)))

  one_more : live_in opened.state ≡ suc n
  one_more = live ∙ add-one n

  opened-latest : (l : ℕ) → latest_in opened l ≡ latest_in x l
  unfolding latest_in version_in marked marked_state archive_in
  opened-latest l =
      ap₂ (λ (m : ℕ) (row : ℕ → Option Line). version_in m row (archive_in x l)) one_more (fun_ext (λ j. opened_frame j l))

  number-further : (o : Place) → frame_number opened.state (further o) ≡ frame_number x.state o
  unfolding frame_number further marked_state
  number-further (in_frame j) = ap (frame_at x.state.registers.frames x.state.registers.omf) (omega (arith, live))
  number-further in_archive = refl

  opened-newest : (l : ℕ) → newest_frame opened l ≡ newest_frame x l
  unfolding newest_frame found_in marked is_written
  opened-newest l =
      ap₂ (λ (m : ℕ) (row : ℕ → Option Line). frame_number opened.state (found_in m (λ j. is_written (row j)))) one_more (fun_ext (λ j. opened_frame j l))
      ∙ number-further (found_in n (λ j. is_written (frame_in x j l)))

  next-well : WellFigure (settings_in x.state) (figure_step (CHANGE MARK) (store.registers x) (store.figure x))
  next-well = mark-well (settings_in x.state) (store.registers x) (store.figure x) (well-figure x q) room

  opened-well : WellStore opened
  unfolding marked_state
  opened-well =
      record {
        fits = facts-fit _ (record { limits = lim.fits.limits; cmf_below = mod-lt _ (omega (arith, lim.fits.omf_below)); omf_below = lim.fits.omf_below });
        long = q.long;
        bits = subst (λ (m : ℕ). WellBits (written_in x) x.state.registers.tag m) (sym live) (mark-keeps (written_in x) x.state.registers.tag n q.bits);
        pages = q.pages;
        archive_empty = q.archive_empty;
        sized = q.sized;
        version_line = step-versions opened _ _ opened-figure next-well;
        archive_line = step-archive opened _ _ opened-figure next-well;
        entries = q.entries;
        coherent = λ e v. ((q.coherent e v).0 ∙ sym (opened-latest (held_line x.state.cache e)), (q.coherent e v).1 ∙ sym (opened-newest (held_line x.state.cache e)));
      }

  pub opened-followed : Followed store (CHANGE MARK) x (outcome 0) opened
  unfolding accepted cache_step marked_state
  opened-followed =
      record {
        answer = refl;
        well = opened-well;
        figure = opened-figure;
        cache = refl;
      }

-- The promise: refused, and accepted.
module _ (x : Storage) (r : ℕ) (p : Pieces) (are : p ≡ lengths_in x.memory) (given : r ≡ admitted (registers_in x.state) p (unless (ltb (live_in x.state) x.state.registers.frames) 12 0)) where
  told : r ≡ admitted_in x (unless (ltb (live_in x.state) x.state.registers.frames) 12 0)
  told = told_in x (unless (ltb (live_in x.state) x.state.registers.frames) 12 0) r p are given

  abbrev opened_registers : (cmf : ℕ) → Registers
  opened_registers cmf = registers_with x.state.registers cmf x.state.registers.omf x.state.registers.tag x.state.registers.first x.state.registers.used

  pub mark-refused : r ≢ 0 → Marks x r x
  unfolding refusal act_refusal facts_by refused
  mark-refused z = (turned_down x (ON (CHANGE MARK)) r told z, λ e. absurd (z e))

  pub mark-opens : r ≡ 0 → (next : ℕ) → next ≡ (x.state.registers.cmf + 1) % x.state.registers.frames
      → Marks x 0 (record { state = state_of (opened_registers next) x.state.cache; memory = x.memory })
  unfolding refusal act_refusal facts_by refused registers_step settings_for marked_state
  mark-opens z next is =
      let e : opened_registers next ≡ marked_registers x.state.registers = ap opened_registers is in
      let rest = admitted-rest (registers_in x.state) (lengths_in x.memory) r _ told z in
      let below = ltb-true (live_in x.state) x.state.registers.frames (passed (ltb (live_in x.state) x.state.registers.frames) 12 0 (omega arith) rest).0 in (
        subst (λ (s : Registers). Promise store (ON (CHANGE MARK)) x (outcome 0) (record { state = state_of s x.state.cache; memory = x.memory })) (sym e)
            (let_through x (ON (CHANGE MARK)) r told z refl (record { registers = refl; followed = λ q. opened-followed x q below }) refl refl),
        λ d. ap (λ (s : Registers). state_of s x.state.cache) e,
      )
