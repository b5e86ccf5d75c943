-- WRITE to a line that the cache holds with CMF as its frame keeps its promise: what the short way leaves is what the long one would. Assumes
-- nothing.
use Rattle.std.specs.Prelude.{Option, Some, None}
use mathlib.Core.Path.{◌≡◌, refl, sym, ◌∙◌, ap, ap₂, subst}
use mathlib.Core.Bool.{Bool, true, false, cond}
use mathlib.Core.List.{List}
use Prim.Native.Nat.{ℕ, ◌+◌, ◌-◌, ◌*◌, ◌/◌, ◌%◌, ◌≤◌, ◌<◌, min}
use native.Mathlib.Omega.{arith}
use borrow.Author.Tests.{lt-ltb}
use lib.ListN.{length, get_or, drop, set, length-drop}
use lib.Seq.{set-get_or, length-take-le}
use Rattle.rules.specs.Settings.{elements}
use Rattle.rules.specs.Line.{Line, line_of, offset_of, edit}
use Rattle.rules.specs.Call.{refused}
use Rattle.rules.specs.Call.Answer.{outcome}
use Rattle.rules.specs.Call.Change.{WRITE}
use Rattle.rules.specs.Call.Act.{CHANGE}
use Rattle.rules.specs.Call.Call.{ON}
use Rattle.rules.specs.Refusal.{unless, write_refusal, refusal, act_refusal, lacks, facts_by}
use Rattle.rules.specs.Figure2.{registers_step}
use Rattle.rules.specs.Promise.{Followed, settings_for}
use Rattle.rules.proofs.Promise.{lacking-own, accept}
use Rattle.rules.proofs.Chain.{Placed}
use Rattle.rules.proofs.Line.{length-edit}
use Rattle.frames.specs.Circle.{index_of}
use Rattle.frames.proofs.Circle.{index-frame}
use Rattle.lists.specs.Lines.{line_at, paste_line}
use Rattle.lists.proofs.Lines.{length-written, past-written}
use Rattle.written.specs.declared.Shape.{Shape}
use Rattle.written.specs.Bits.{written_at, AsksWritten, effective}
use Rattle.written.specs.Steps.{with_written, renewed}
use Rattle.written.proofs.Renewing.{renewed-written}
use Rattle.pages.specs.Lines.{page_line, with_page_line}
use Rattle.pages.specs.Table.{needed_at, entry_at}
use Rattle.pages.proofs.Needs.{effective-needed}
use Rattle.cache.specs.Entries.{cache_of, bytes_in, found, of_frame, held_frame, FoundAt}
use Rattle.cache.specs.Steps.{placed_in}
use Rattle.cache.proofs.Hits.{found_at, of-hit}
use Rattle.cache.proofs.Uses.{hit-edited}
use Rattle.versions.specs.Newest.{page_of, spot_of, content_of, number_of}
use Rattle.versions.proofs.Finding.{entry-within}
use Rattle.storage.specs.declared.Registers.{Registers}
use Rattle.storage.specs.Storage.{Storage, storage_of, state_of, shape_at, memory_of, settings_at, settings_in, registers_of, registers_in, lengths_in, past_in, live_in, written_in, latest_in, newest_frame, WellStore, store}
use Rattle.storage.specs.Steps.{given_registers, used_state, content_after, current_place, current_entry, WroteTo, named_page, AsksEdit}
use Rattle.storage.specs.Admit.{admitted, Room, PlaceRoom}
use Rattle.storage.specs.Clauses.{Writes}
use Rattle.storage.proofs.Admitting.{room-lent}
use Rattle.storage.proofs.Chains.{admitted-on, write-decides, write-room}
use Rattle.storage.proofs.Looking.{admitted_in}
use Rattle.storage.proofs.Limits.{Limits, limits}
use Rattle.storage.proofs.Past.{written-long, written-past, renewed-either}
use Rattle.storage.proofs.Reading.{Findable, well-findable, newest, newest-facts, number-newest, content-latest, page-known}
use Rattle.storage.proofs.Choosing.{Chosen, chosen-own, own_back, cmf-index, cmf-frame}
use Rattle.storage.proofs.Writing.{stored-followed}

line-long : (xs : List ℕ) (at : ℕ) → at + 16 ≤ length xs → length (line_at xs at) ≡ 16
unfolding line_at
line-long xs at room = length-take-le 16 (drop at xs) (omega (arith, length-drop at xs))

-- What the short way asks, once WRITE is admitted.
pub asks-edit : (g : Registers) (archive owners : ℕ) (pool groups table history : List ℕ) (r wd a v : ℕ)
    → admitted (registers_of g) (record { archive = archive; pool = length pool; groups = length groups; table = length table; owners = owners; history = length history }) 0 ≡ 0
    → r ≡ write_refusal (settings_at g) wd a v 0 → r ≡ 0 → (e : ℕ) → e < 32 → AsksEdit g wd a e pool groups table history
unfolding elements
asks-edit g archive owners pool groups table history r wd a v let-in own z e few =
    let place = (write-room (registers_of g) _ r wd a v let-in own z).0 in
    let room = place.room in
    record {
      entry_few = few;
      bytes = place.bytes;
      named =
          record {
            lines_few = room.lines_to;
            frame_few = omega (arith, room.cmf_below, room.frames_to);
            block_few = omega (arith, place.line_below, room.lines_to);
            entry_below = omega (arith, entry-within g.lines g.frames g.cmf (line_of a) room.lines_by room.cmf_below place.line_below, room.table_long);
          };
      pages_some = room.pages_from;
      pages_few = room.pages_to;
      pool_long = room.pool_long;
      written =
          record {
            lent = room-lent (registers_of g) archive (length pool) (length table) owners groups history room;
            line_below = place.line_below;
            index_below = room.cmf_below;
          };
    }

-- What the short way leaves of pool and groups, in the form in which the code has it, which is by a shape.
pub edit-told : (g : Registers) (wd a v : ℕ) (pool groups table history : List ℕ) (shape : Shape) → shape ≡ shape_at g → (named : ℕ)
    → (named ≡ get_or table (entry_at shape.lines g.cmf (line_of a / 8)) 0) × (named < 65536) → (page : ℕ) → page ≡ min named (g.pages - 1) → (pool-after groups-after : List ℕ)
    → pool-after ≡ with_page_line pool page (line_of a % 8) (edit wd (offset_of a) v (page_line pool page (line_of a % 8)))
    → groups-after ≡ renewed (written_at shape groups history) (g.tag % 256) (line_of a) g.cmf
    → (pool-after ≡ with_page_line pool (named_page g table (line_of a)) (line_of a % 8) (edit wd (offset_of a) v (page_line pool (named_page g table (line_of a)) (line_of a % 8))))
    × (groups-after ≡ renewed (written_at (shape_at g) groups history) (g.tag % 256) (line_of a) g.cmf)
edit-told g wd a v pool groups table history shape is named at page least pool-after groups-after ep eg =
    let same : page ≡ named_page g table (line_of a) =
    least ∙ ap (λ (n : ℕ). min n (g.pages - 1)) (at.0 ∙ ap (λ (y : Shape). get_or table (entry_at y.lines g.cmf (line_of a / 8)) 0) is)
    in (
      ep ∙ ap (λ (n : ℕ). with_page_line pool n (line_of a % 8) (edit wd (offset_of a) v (page_line pool n (line_of a % 8)))) same,
      eg ∙ ap (λ (y : Shape). renewed (written_at y groups history) (g.tag % 256) (line_of a) g.cmf) is,
    )

-- A line whose newest version is CMF's, on well-formed storage: its bit is set there, and its bytes are those of the page that the table names.
module _ (x : Storage) (q : WellStore x) (l : ℕ) (b : l < x.state.registers.lines) (own : newest_frame x l ≡ x.state.registers.cmf) where
  abbrev n : ℕ
  n = live_in x.state

  abbrev lim : Limits x
  lim = limits x q.fits

  abbrev fq : Findable x
  fq = well-findable x q

  number : number_of x.state.registers.frames x.state.registers.omf (newest x fq l b) ≡ x.state.registers.cmf
  number = number-newest x fq l b ∙ own

  newest-current : newest x fq l b ≡ Some (n - 1)
  unfolding number_of
  newest-current = go (newest x fq l b) refl number
    where
      go : (r : Option ℕ) → newest x fq l b ≡ r → number_of x.state.registers.frames x.state.registers.omf r ≡ x.state.registers.cmf → newest x fq l b ≡ Some (n - 1)
      go (Some i) e f =
          let few : i < x.state.registers.frames = omega (arith, (newest-facts x fq l b i e).below, lim.live_most) in
          let same : i ≡ n - 1 =
          sym (index-frame x.state.registers.frames x.state.registers.omf lim.fits.omf_below i few)
          ∙ (ap (index_of x.state.registers.frames x.state.registers.omf) f ∙ cmf-index x q l b)
          in
          e ∙ ap Some same
      go None e f = absurd (omega (arith, f, lim.fits.cmf_below, lim.good.frames_to))

  pub bit-current : effective (written_in x) (n - 1) l ≡ true
  bit-current = (newest-facts x fq l b (n - 1) newest-current).passes

  -- the page that the table names
  abbrev pub current-page : ℕ
  current-page = get_or x.memory.table (current_entry x l) 0

  below-pages : current-page < x.state.registers.pages
  unfolding page_of
  below-pages = page-known x fq (n - 1) l (omega (arith, lim.live_some)) b bit-current

  pub page-current : page_line x.memory.pool current-page (l % 8) ≡ latest_in x l
  unfolding content_of spot_of page_of
  page-current =
      sym (ap (λ (t : Bool). content_of x.memory.archive x.memory.pool l (cond t (Some current-page) None)) (lt-ltb current-page x.state.registers.pages below-pages))
      ∙ (ap (λ (r : Option ℕ). content_of x.memory.archive x.memory.pool l (spot_of x.state.registers.lines x.state.registers.frames x.state.registers.omf x.state.registers.pages x.memory.table l r)) (sym newest-current)
      ∙ content-latest x fq l b)

  pub named-current : named_page x.state.registers x.memory.table l ≡ current-page
  named-current =
      let at : get_or x.memory.table (entry_at x.state.registers.lines x.state.registers.cmf (l / 8)) 0 ≡ current-page =
      ap (λ (f : ℕ). get_or x.memory.table (entry_at x.state.registers.lines f (l / 8)) 0) (sym (cmf-frame x q l b))
      in
      omega (arith, at, below-pages)

  pub needed-current : needed_at (written_in x) (current_place x l) ≡ true
  needed-current =
      let block : l / 8 < x.state.registers.lines / 8 = omega (arith, lim.good.lines_by) in
      effective-needed (written_in x) (n - 1) l lim.good.lines_to lim.fits.omf_below (omega (arith, lim.live_some, lim.live_most)) block bit-current

-- Once WRITE is admitted and an entry holds the line with CMF as its frame:
module _ (x : Storage) (wd a v r : ℕ) (let-in : admitted_in x 0 ≡ 0) (own : r ≡ write_refusal (settings_in x.state) wd a v 0) (z : r ≡ 0) (f : Option ℕ)
    (f-is : f ≡ found x.state.cache (line_of a)) (own-frame : Option ℕ) (own_is : own-frame ≡ of_frame x.state.cache.origins x.state.registers.cmf f) (e : ℕ) (hit : own-frame ≡ Some e) where
  abbrev l : ℕ
  l = line_of a

  abbrev g : Registers
  g = x.state.registers

  decides : (rest : ℕ) → rest ≡ admitted_in x (write_refusal (settings_in x.state) wd a v rest)
  decides =
      write-decides (registers_in x.state) (lengths_in x.memory) wd a v r
      (admitted-on (registers_in x.state) (lengths_in x.memory) 0 (sym let-in) refl r (write_refusal (settings_in x.state) wd a v 0) own) z

  place-room : PlaceRoom (registers_in x.state) (lengths_in x.memory) wd a × Placed (settings_in x.state) wd a
  place-room = write-room (registers_in x.state) (lengths_in x.memory) r wd a v let-in own z

  below : l < g.lines
  below = place-room.0.line_below

  room : Room (registers_in x.state) (lengths_in x.memory)
  room = place-room.0.room

  lent : AsksWritten (written_in x)
  lent =
      room-lent (registers_in x.state) (length x.memory.archive) (length x.memory.pool) (length x.memory.table) (length x.memory.owners) x.memory.groups x.memory.history room

  pool-room : 128 * g.pages ≤ length x.memory.pool
  unfolding elements
  pool-room = room.pool_long

  module _ (bytes last pool groups : List ℕ) (bytes_is : bytes ≡ paste_line x.state.cache.bytes (16 * e) (edit wd (offset_of a) v (bytes_in x.state.cache.bytes e)))
      (last_is : last ≡ set x.state.cache.last (e / 2) (e % 2))
      (pool-is : pool ≡ with_page_line x.memory.pool (named_page g x.memory.table l) (l % 8) (edit wd (offset_of a) v (page_line x.memory.pool (named_page g x.memory.table l) (l % 8))))
      (groups_is : groups ≡ renewed (written_in x) (g.tag % 256) l g.cmf) where
    abbrev t : Storage
    t =
        storage_of (state_of (given_registers g g.used) (cache_of x.state.cache.held x.state.cache.origins x.state.cache.valid bytes last)) x.memory.archive pool groups x.memory.table
        x.memory.owners x.memory.history

    abbrev page : ℕ
    page = named_page g x.memory.table l

    abbrev at : ℕ
    at = 128 * page + 16 * (l % 8)

    page-room : at + 16 ≤ 128 * g.pages
    page-room = omega (arith, room.pages_from)

    abbrev line : Line
    line = page_line x.memory.pool page (l % 8)

    whole : length (edit wd (offset_of a) v line) ≡ 16
    whole =
        let long : length line ≡ 16 = line-long x.memory.pool at (omega (arith, page-room, pool-room)) in
        length-edit wd (offset_of a) v line (omega (arith, long, place-room.0.bytes.inside)) ∙ long

    -- Inside the lent memory, on any storage.
    lengths : lengths_in t.memory ≡ lengths_in x.memory
    lengths = λ i.
        record {
          archive = length x.memory.archive;
          pool = (ap length pool-is ∙ length-written x.memory.pool (edit wd (offset_of a) v line) at (omega (arith, page-room, pool-room)) whole) i;
          groups =
              (ap length groups_is
              ∙ renewed-either (written_in x) (g.tag % 256) l g.cmf (λ ys. length ys ≡ length x.memory.groups) refl
              (written-long (written_in x) (g.tag % 256) l (index_of g.frames g.omf g.cmf))) i;
          table = length x.memory.table;
          owners = length x.memory.owners;
          history = length x.memory.history;
        }

    past : past_in (elements (settings_in x.state)) t.memory ≡ past_in (elements (settings_in x.state)) x.memory
    unfolding elements
    past = λ i.
        memory_of (drop (16 * g.lines) x.memory.archive)
        ((ap (drop (128 * g.pages)) pool-is
        ∙ past-written x.memory.pool (edit wd (offset_of a) v line) at (omega (arith, page-room, pool-room)) whole (128 * g.pages) page-room) i)
        ((ap (drop (g.frames / 16 * g.lines)) groups_is
        ∙ renewed-either (written_in x) (g.tag % 256) l g.cmf (λ ys. drop (g.frames / 16 * g.lines) ys ≡ drop (g.frames / 16 * g.lines) x.memory.groups) refl
        (written-past (written_in x) (g.tag % 256) l (index_of g.frames g.omf g.cmf) lent below)) i)
        (drop (g.frames * (g.lines / 8)) x.memory.table) (drop (g.pages + g.lines) x.memory.owners) (drop 256 x.memory.history)

    -- What it is on well-formed storage.
    module _ (q : WellStore x) where
      here : (found x.state.cache l ≡ Some e) × (held_frame x.state.cache e ≡ g.cmf)
      here = let o = of-hit x.state.cache.origins g.cmf e f (sym own_is ∙ hit) in (sym f-is ∙ o.0, o.1)

      there : FoundAt x.state.cache l e
      there = found_at x.state.cache l e here.0

      held-latest : bytes_in x.state.cache.bytes e ≡ latest_in x l
      held-latest = (q.coherent e there.valid).0 ∙ ap (latest_in x) there.line

      newest-own : newest_frame x l ≡ g.cmf
      newest-own = sym ((q.coherent e there.valid).1 ∙ ap (newest_frame x) there.line) ∙ here.1

      abbrev needed : needed_at (written_in x) (current_place x l) ≡ true
      needed = needed-current x q l below newest-own

      abbrev own-page : ℕ
      own-page = current-page x q l below newest-own

      c : Chosen x q l below own-page g.used
      c = chosen-own x q l below needed

      tag_is : g.tag % 256 ≡ g.tag
      tag_is = omega (arith, q.bits.tag_below)

      index : index_of g.frames g.omf g.cmf ≡ live_in x.state - 1
      index = cmf-index x q l below

      same-pool : pool ≡ with_page_line x.memory.pool own-page (l % 8) (content_after x wd a v)
      unfolding content_after
      same-pool =
          pool-is
          ∙ (ap (λ (p : ℕ). with_page_line x.memory.pool p (l % 8) (edit wd (offset_of a) v (page_line x.memory.pool p (l % 8)))) (named-current x q l below newest-own)
          ∙ ap (λ (y : Line). with_page_line x.memory.pool own-page (l % 8) (edit wd (offset_of a) v y)) (page-current x q l below newest-own))

      same-groups : groups ≡ with_written (written_in x) g.tag l (live_in x.state - 1)
      same-groups =
          groups_is
          ∙ (ap (λ (m : ℕ). renewed (written_in x) m l g.cmf) tag_is
          ∙ (renewed-written (written_in x) g.tag l g.cmf
          (record { lent = lent; line_below = below; index_below = omega (arith, index, room.live_some, room.live_most) }) room.cmf_below q.bits.tag_below q.bits.open_tag
          (ap (λ (m : ℕ). effective (written_in x) m l) index ∙ bit-current x q l below newest-own)
          ∙ ap (with_written (written_in x) g.tag l) index))

      same-state : t.state ≡ used_state x.state g.used (placed_in x.state.cache l g.cmf (content_after x wd a v))
      unfolding used_state content_after
      same-state =
          ap (state_of (given_registers g g.used))
          (hit-edited x.state.cache l e here.0 (edit wd (offset_of a) v (bytes_in x.state.cache.bytes e)) bytes last bytes_is last_is
          ∙ ap₂ (λ (f : ℕ) (y : Line). placed_in x.state.cache l f (edit wd (offset_of a) v y)) here.1 held-latest)

      same_memory : t.memory
          ≡ memory_of x.memory.archive (with_page_line x.memory.pool own-page (l % 8) (content_after x wd a v)) (with_written (written_in x) g.tag l (live_in x.state - 1))
          (set x.memory.table (current_entry x l) own-page) (set x.memory.owners own-page (current_place x l)) x.memory.history
      same_memory = λ i.
          memory_of x.memory.archive (same-pool i) (same-groups i) (sym (set-get_or x.memory.table (current_entry x l) 0) i)
          (sym (ap (set x.memory.owners own-page) (sym (own_back x q l below needed)) ∙ set-get_or x.memory.owners own-page 0) i) x.memory.history

      edit-left : WroteTo x wd a v t
      edit-left =
          record {
            state = same-state ∙ ap (λ (u : ℕ). used_state x.state u (placed_in x.state.cache l g.cmf (content_after x wd a v))) c.used_is;
            memory =
                same_memory
                ∙ ap
                (λ (p : ℕ). memory_of x.memory.archive (with_page_line x.memory.pool p (l % 8) (content_after x wd a v)) (with_written (written_in x) g.tag l (live_in x.state - 1))
                (set x.memory.table (current_entry x l) p) (set x.memory.owners p (current_place x l)) x.memory.history) c.page_is;
          }

      followed : Followed store (CHANGE (WRITE wd a v)) x (outcome 0) t
      unfolding content_after
      followed =
          subst (λ (y : Storage). Followed store (CHANGE (WRITE wd a v)) x (outcome 0) y) (sym (λ i. record { state = same-state i; memory = same_memory i }))
          (stored-followed x q wd a v place-room.1 below g.used own-page c)

    pub edit-done : Writes x wd a v 0 t
    unfolding refusal act_refusal facts_by refused unless settings_for lacks registers_step
    edit-done = (
      accept store (ON (CHANGE (WRITE wd a v))) x (λ c. false) (λ q. lacking-own store x (CHANGE (WRITE wd a v)) false (sym (c q).free)) (sym (decides 0)) refl
          (record { registers = refl; followed = followed }) lengths past,
      λ d. edit-left,
    )
