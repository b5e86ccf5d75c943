-- READ and LINE keep their promise. Assumes nothing.
use Rattle.std.specs.Prelude.{Option, Some, None}
use mathlib.Core.Path.{◌≡◌, refl, sym, ◌∙◌, ap, ap₂, subst}
use mathlib.Core.Logic.{◌≢◌}
use mathlib.Core.Bool.{cond}
use mathlib.Core.List.{List, []}
use Prim.Native.Nat.{ℕ, ◌-◌, ◌/◌, ◌%◌, ◌<◌}
use lib.ListN.{length, set}
use Rattle.rules.specs.Settings.{Pieces}
use Rattle.rules.specs.Line.{Line, line_of, offset_of, value_at}
use Rattle.rules.specs.Call.{Answer, refused}
use Rattle.rules.specs.Call.Place.{in_archive}
use Rattle.rules.specs.Call.Origin.{from_cache, from, empty}
use Rattle.rules.specs.Call.Answer.{reading, lending}
use Rattle.rules.specs.Call.Look.{LINE}
use Rattle.rules.specs.Call.Act.{READ, LOOK}
use Rattle.rules.specs.Call.Call.{ON}
use Rattle.rules.specs.Seen.{accepted}
use Rattle.rules.specs.Refusal.{place_refusal, line_refusal, refusal, act_refusal, facts_by}
use Rattle.rules.specs.Figure2.{figure_step, registers_step, figure_seen, found_in, is_written, mrv}
use Rattle.rules.specs.Figure3.{WellCache, holds, use_line, cache_step}
use Rattle.rules.specs.Promise.{Promise, Followed, seen_of, settings_for}
use Rattle.rules.proofs.Chain.{Placed, place-passed}
use Rattle.rules.proofs.Width.{line_below}
use Rattle.rules.proofs.WellCache.{use-well}
use Rattle.pages.specs.Lines.{page_line, archive_line}
use Rattle.written.specs.Bits.{newest_from}
use Rattle.cache.specs.declared.Cache.{Cache}
use Rattle.cache.specs.Entries.{cache_of, held_frame, held_bytes, found}
use Rattle.cache.specs.Steps.{placed_in}
use Rattle.cache.specs.Shown.{shown}
use Rattle.cache.proofs.Uses.{placed-sized, placed-shown, placed-all, hit-placed}
use Rattle.versions.specs.declared.Version.{Version}
use Rattle.versions.specs.declared.Origin as code
use Rattle.versions.specs.declared.Origin.TheVariants as origin
use Rattle.pages.specs.Flags.{collected_at}
use Rattle.versions.specs.Newest.{page_of, spot_of, content_of, origin_of, empty_or, newest_of, latest_of}
use Rattle.versions.proofs.Finding.{latest-hit, latest-miss, latest-held}
use Rattle.storage.specs.declared.State.{State}
use Rattle.storage.specs.Storage.{Storage, state_of, settings_in, registers_in, lengths_in, live_in, written_in, frame_in, archive_in, collected_in, version_at, latest_in, newest_frame, Recent, WellStore, store}
use Rattle.storage.specs.Admit.{admitted}
use Rattle.storage.specs.Steps.{given_registers, used_state, read_state}
use Rattle.storage.specs.Clauses.{Reads}
use Rattle.storage.proofs.Chains.{admitted-rest, line-room}
use Rattle.storage.proofs.Looking.{admitted_in, told_in, turned_down, let_through}
use Rattle.storage.proofs.Numbers.{used-number}
use Rattle.storage.proofs.Reading.{well-findable, content-latest, latest-told, origin-named, latest-line}

-- A use of a line by a READ: the cache has its most recent version, and all else is as it was.
module _ (x : Storage) (q : WellStore x) (l : ℕ) (b : l < x.state.registers.lines) where
  abbrev pub used : Storage
  used = record { state = read_state x l; memory = x.memory }

  long : length (latest_in x l) ≡ 16
  long = (latest-line x q l b).long

  used-cache : shown used.state.cache ≡ use_line l (shown x.state.cache)
  unfolding read_state used_state
  used-cache = placed-shown x.state.cache q.sized l (newest_frame x l) (latest_in x l) long

  used-newest : (m : ℕ) → newest_frame used m ≡ newest_frame x m
  unfolding newest_frame read_state used_state frame_in version_at page_of
  used-newest m = used-number x.state x.state.registers.used (placed_in x.state.cache l (newest_frame x l) (latest_in x l)) (found_in (live_in x.state) (λ j. is_written (frame_in x j m)))

  used-well : WellStore used
  unfolding read_state used_state frame_in archive_in version_at latest_in page_of
  used-well =
      record {
        fits = q.fits;
        long = q.long;
        bits = q.bits;
        pages = q.pages;
        archive_empty = q.archive_empty;
        sized = placed-sized x.state.cache q.sized l (newest_frame x l) (latest_in x l) long;
        version_line = q.version_line;
        archive_line = q.archive_line;
        entries = subst (WellCache (settings_in x.state)) (sym used-cache) (use-well (settings_in x.state) l (shown x.state.cache) b q.entries);
        coherent = placed-all x.state.cache q.sized l (newest_frame x l) (latest_in x l) long (Recent x) (Recent used) (settings_in x.state) q.entries q.coherent (refl, sym (used-newest l)) (λ m g c d r. (r.0, r.1 ∙ sym (used-newest m)));
      }

-- The state after a use of a line, as the code has it.
pub used-done : (s : State) (used line frame : ℕ) (content : List ℕ) (k : Cache) → k ≡ placed_in s.cache line frame content
    → state_of (given_registers s.registers used) k ≡ used_state s used (placed_in s.cache line frame content)
unfolding used_state
used-done s used line frame content k e = ap (state_of (given_registers s.registers used)) e

module _ (x : Storage) (w a : ℕ) where
  abbrev l : ℕ
  l = line_of a

  abbrev due : Answer
  due =
      reading 0 (value_at w (offset_of a) (latest_in x l))
      (cond ((seen_of store x).touched l) (cond (holds (shown x.state.cache) l) from_cache (from ((seen_of store x).origin l))) empty)

  read-followed : (q : WellStore x) (b : l < x.state.registers.lines) → Followed store (READ w a) x due (used x q l b)
  unfolding accepted figure_step cache_step read_state used_state frame_in archive_in collected_in version_at seen_of figure_seen mrv latest_in page_of
  read-followed q b =
      record {
        answer = refl;
        well = used-well x q l b;
        figure = refl;
        cache = used-cache x q l b;
      }

  module _ (r : ℕ) (p : Pieces) (are : p ≡ lengths_in x.memory) (given : r ≡ admitted (registers_in x.state) p (place_refusal (settings_in x.state) w a 0)) where
    told : r ≡ admitted_in x (place_refusal (settings_in x.state) w a 0)
    told = told_in x (place_refusal (settings_in x.state) w a 0) r p are given

    pub read-refused : r ≢ 0 → Reads x w a r 0 (from in_archive) x
    unfolding refusal act_refusal facts_by refused
    read-refused z = (turned_down x (ON (READ w a)) r told z, λ e. absurd (z e))

    module _ (z : r ≡ 0) where
      pub place-known : Placed (settings_in x.state) w a
      place-known = (place-passed (settings_in x.state) w a 0 (admitted-rest (registers_in x.state) (lengths_in x.memory) r _ told z)).0

      -- in the form in which the code has the version, the value, the cache and the state
      module _ (live : ℕ) (live-is : live ≡ live_in x.state) (v : Version)
          (found : v ≡ latest_of x.state.cache (written_in x) x.state.registers.pages live x.memory.archive x.memory.pool x.memory.table l)
          (value : ℕ) (valued : value ≡ value_at w (offset_of a) v.content)
          (named : code.Origin) (named-is : named ≡ empty_or (collected_at x.state.registers.pages x.memory.owners l) v.frame v.origin) (s : State)
          (is : s ≡ used_state x.state x.state.registers.used (placed_in x.state.cache l v.frame v.content)) where
        module _ (q : WellStore x) where
          b : l < x.state.registers.lines
          b = line_below place-known

          abbrev facts : (v.content ≡ latest_in x l) × (v.frame ≡ newest_frame x l) × (origin_of v.origin ≡ cond (holds (shown x.state.cache) l) from_cache (from ((seen_of store x).origin l)))
          facts =
              latest-told x q l b v
              (found ∙ ap (λ (m : ℕ). latest_of x.state.cache (written_in x) x.state.registers.pages m x.memory.archive x.memory.pool x.memory.table l) live-is)

          read-state : s ≡ read_state x l
          unfolding read_state
          read-state =
              is ∙ ap₂ (λ (f : ℕ) (y : Line). used_state x.state x.state.registers.used (placed_in x.state.cache l f y)) facts.1 facts.0

          read_answer : reading 0 value (origin_of named) ≡ due
          read_answer = ap₂ (reading 0) (valued ∙ ap (value_at w (offset_of a)) facts.0) (ap origin_of named-is ∙ origin-named x q l b v facts.1 facts.2)

          read_step : Followed store (READ w a) x (reading 0 value (origin_of named)) (record { state = s; memory = x.memory })
          read_step =
              subst (λ (o : Answer). Followed store (READ w a) x o (record { state = s; memory = x.memory })) (sym read_answer)
              (subst (λ (t : State). Followed store (READ w a) x due (record { state = t; memory = x.memory })) (sym read-state) (read-followed q b))

        read-registers : store.registers (record { state = s; memory = x.memory }) ≡ store.registers x
        unfolding used_state
        read-registers = ap (λ (y : State). store.registers (record { state = y; memory = x.memory })) is

        read_told : Promise store (ON (READ w a)) x (reading 0 value (origin_of named)) (record { state = s; memory = x.memory })
        unfolding refusal act_refusal facts_by refused registers_step settings_for
        read_told = let_through x (ON (READ w a)) r told z refl (record { registers = read-registers; followed = read_step }) refl refl

      -- What the code has of it: an entry of the cache that holds the line,
      module _ (live : ℕ) (live-is : live ≡ live_in x.state) (f : Option ℕ) (f-is : f ≡ found x.state.cache l) where
        abbrev c : Cache
        c = x.state.cache

        module _ (e : ℕ) (at_entry_lem : f ≡ Some e) (content : Line) (content_is : content ≡ held_bytes c e) (value : ℕ)
            (valued : value ≡ value_at w (offset_of a) content) (frame : ℕ) (frame_is : frame ≡ held_frame c e)
            (named : code.Origin) (named-is : named ≡ empty_or (collected_at x.state.registers.pages x.memory.owners l) frame origin.Cache)
            (last : List ℕ) (last_is : last ≡ set c.last (e / 2) (e % 2)) where
          abbrev held : Version
          held = record { content = content; frame = held_frame c e; origin = origin.Cache }

          abbrev after : State
          after = state_of x.state.registers (cache_of c.held c.origins c.valid c.bytes last)

          held-is : held ≡ latest_of c (written_in x) x.state.registers.pages live x.memory.archive x.memory.pool x.memory.table l
          held-is =
              latest-held c.held c.origins c.valid c.bytes (written_in x) x.state.registers.pages live l x.memory.archive x.memory.pool x.memory.table f f-is held
              (latest-hit c.origins c.bytes _ f e (held_frame c e) content at_entry_lem content_is refl)

          after_is : after ≡ used_state x.state x.state.registers.used (placed_in c l (held_frame c e) content)
          after_is =
              used-done x.state x.state.registers.used l (held_frame c e) content _
              (hit-placed c l e (sym f-is ∙ at_entry_lem) last last_is ∙ ap (placed_in c l (held_frame c e)) (sym content_is))

          named-held : named ≡ empty_or (collected_at x.state.registers.pages x.memory.owners l) (held_frame c e) origin.Cache
          named-held = named-is ∙ ap (λ (n : ℕ). empty_or (collected_at x.state.registers.pages x.memory.owners l) n origin.Cache) frame_is

          pub read-hits : Reads x w a 0 value (origin_of named) (record { state = after; memory = x.memory })
          read-hits = (
            read_told live live-is held held-is value valued named named-held after after_is,
            λ e. (refl, read-state live live-is held held-is value valued named named-held after after_is),
          )

        -- or the newest version, which the cache takes in.
        module _ (missed : f ≡ None) (v : Version)
            (v-is : v ≡ newest_of (written_in x) x.state.registers.pages live x.memory.archive x.memory.pool x.memory.table l) (value : ℕ)
            (valued : value ≡ value_at w (offset_of a) v.content)
            (named : code.Origin) (named-is : named ≡ empty_or (collected_at x.state.registers.pages x.memory.owners l) v.frame v.origin)
            (k : Cache) (k-is : k ≡ placed_in c l v.frame v.content) where
          found-is : v ≡ latest_of c (written_in x) x.state.registers.pages live x.memory.archive x.memory.pool x.memory.table l
          found-is =
              latest-held c.held c.origins c.valid c.bytes (written_in x) x.state.registers.pages live l x.memory.archive x.memory.pool x.memory.table f f-is v
              (latest-miss c.origins c.bytes _ f v missed v-is)

          loaded-is : state_of x.state.registers k ≡ used_state x.state x.state.registers.used (placed_in c l v.frame v.content)
          loaded-is = used-done x.state x.state.registers.used l v.frame v.content k k-is

          abbrev loaded : State
          loaded = state_of x.state.registers k

          pub read-misses : Reads x w a 0 value (origin_of named) (record { state = loaded; memory = x.memory })
          read-misses = (
            read_told live live-is v found-is value valued named named-is loaded loaded-is,
            λ e. (refl, read-state live live-is v found-is value valued named named-is loaded loaded-is),
          )

-- LINE lends the bytes where they stand.
module _ (x : Storage) (l r : ℕ) (p : Pieces) (are : p ≡ lengths_in x.memory) (given : r ≡ admitted (registers_in x.state) p (line_refusal (settings_in x.state) l)) where
  told_line : r ≡ admitted_in x (line_refusal (settings_in x.state) l)
  told_line = told_in x (line_refusal (settings_in x.state) l) r p are given

  pub line_refused : r ≢ 0 → Promise store (ON (LOOK (LINE l))) x (lending []) x
  unfolding refusal act_refusal facts_by refused
  line_refused z = turned_down x (ON (LOOK (LINE l))) r told_line z

  module _ (z : r ≡ 0) (live : ℕ) (live-is : live ≡ live_in x.state) (found : Option ℕ) (found-is : found ≡ newest_from (written_in x) l (live - 1))
      (spot : Option ℕ) (spot_is : spot ≡ spot_of x.state.registers.lines x.state.registers.frames x.state.registers.omf x.state.registers.pages x.memory.table l found) where
    content_is : (bytes : List ℕ) → bytes ≡ content_of x.memory.archive x.memory.pool l spot → WellStore x → lending bytes ≡ accepted (seen_of store x) (holds (store.cache x)) (LOOK (LINE l))
    unfolding accepted seen_of figure_seen mrv latest_in
    content_is bytes e q = ap lending (e ∙ (ap (content_of x.memory.archive x.memory.pool l) (spot_is ∙ ap (spot_of x.state.registers.lines x.state.registers.frames x.state.registers.omf x.state.registers.pages x.memory.table l) (found-is ∙ ap (λ (m : ℕ). newest_from (written_in x) l (m - 1)) live-is)) ∙ content-latest x (well-findable x q) l (line-room (registers_in x.state) (lengths_in x.memory) r l told_line z).line_below))

    told-so : (bytes : List ℕ) → bytes ≡ content_of x.memory.archive x.memory.pool l spot → Promise store (ON (LOOK (LINE l))) x (lending bytes) x
    unfolding refusal act_refusal facts_by refused
    told-so bytes e = let_through x (ON (LOOK (LINE l))) r told_line z refl (record { kept = refl; answer = content_is bytes e }) refl refl

    pub line-in-page : (p : ℕ) (bytes : List ℕ) → spot ≡ Some p → bytes ≡ page_line x.memory.pool p (l % 8) → Promise store (ON (LOOK (LINE l))) x (lending bytes) x
    unfolding content_of
    line-in-page p bytes e d = told-so bytes (d ∙ sym (ap (content_of x.memory.archive x.memory.pool l) e))

    pub line-in-archive : (bytes : List ℕ) → spot ≡ None → bytes ≡ archive_line x.memory.archive l → Promise store (ON (LOOK (LINE l))) x (lending bytes) x
    unfolding content_of
    line-in-archive bytes e d = told-so bytes (d ∙ sym (ap (content_of x.memory.archive x.memory.pool l) e))
