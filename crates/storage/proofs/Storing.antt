-- WRITE keeps its promise, in the form in which the code has what is left. Assumes nothing.
use Rattle.std.specs.Prelude.{Option, Some, None}
use mathlib.Core.Path.{◌≡◌, refl, sym, ◌∙◌, ap, ap₂, subst}
use mathlib.Core.Logic.{◌≢◌}
use mathlib.Core.Bool.{true, false}
use mathlib.Core.List.{List}
use Prim.Native.Nat.{ℕ, ◌+◌, ◌-◌, ◌*◌, ◌/◌, ◌%◌, ◌≤◌, ◌<◌}
use native.Mathlib.Omega.{arith}
use lib.ListN.{length, drop, set, length-set}
use lib.Seq.{drop-set-lt}
use Rattle.rules.specs.Settings.{Pieces, elements}
use Rattle.rules.specs.Line.{Line, line_of, offset_of, edit}
use Rattle.rules.specs.Call.{refused}
use Rattle.rules.specs.Call.Answer.{outcome}
use Rattle.rules.specs.Call.Change.{WRITE}
use Rattle.rules.specs.Call.Act.{CHANGE}
use Rattle.rules.specs.Call.Call.{ON}
use Rattle.rules.specs.Registers as rules
use Rattle.rules.specs.Refusal.{unless, write_refusal, refusal, act_refusal, lacks, facts_by}
use Rattle.rules.specs.Figure2.{registers_step}
use Rattle.rules.specs.Promise.{Promise, Followed, settings_for}
use Rattle.rules.proofs.Promise.{lacking-own, refuse, accept}
use Rattle.rules.proofs.Chain.{Placed}
use Rattle.frames.specs.Circle.{frame_at}
use Rattle.frames.proofs.Circle.{frame_below}
use Rattle.lists.proofs.Lines.{length-written, past-written}
use Rattle.written.specs.declared.Shape.{Shape}
use Rattle.written.specs.Bits.{written_at, AsksWritten}
use Rattle.written.specs.Steps.{with_written}
use Rattle.pages.specs.Lines.{with_page_line}
use Rattle.pages.specs.declared.Ring.{Ring}
use Rattle.pages.specs.Table.{place_at, entry_at}
use Rattle.cache.specs.declared.Cache.{Cache}
use Rattle.cache.specs.Entries.{hit_in}
use Rattle.cache.specs.Steps.{placed_in}
use Rattle.versions.specs.declared.Version.{Version}
use Rattle.versions.specs.Newest.{newest_of, latest_from, latest_of}
use Rattle.versions.specs.Steps.{page_for, used_for, AsksPageFor}
use Rattle.versions.proofs.Finding.{entry-within, latest-held}
use Rattle.storage.specs.Storage.{Storage, state_of, shape_at, ring_at, Lent, memory_of, settings_in, registers_in, lengths_in, past_in, live_in, written_in, WellStore, store}
use Rattle.storage.specs.Steps.{given_registers, used_state, content_after, current_place, current_entry, WroteTo, Put, AsksWrite}
use Rattle.storage.specs.Admit.{admitted, Room, PlaceRoom}
use Rattle.storage.specs.Clauses.{Writes}
use Rattle.storage.proofs.Seeing.{seen, seen-page-asks}
use Rattle.storage.proofs.Rings.{start-below}
use Rattle.storage.proofs.Admitting.{room-lent, room-newest}
use Rattle.storage.proofs.Chains.{admitted-turned, admitted-on, write-stands, write-decides, write-room}
use Rattle.storage.proofs.Looking.{admitted_in, told_in, turned_down}
use Rattle.storage.proofs.Past.{written-long, written-past}
use Rattle.storage.proofs.Reading.{latest-told}
use Rattle.storage.proofs.Choosing.{Chosen, page_below, chosen, none-chosen}
use Rattle.storage.proofs.Writing.{stored-followed}

-- What is left, in the form in which the code has it, which is by a shape.
pub put-told : (x : Storage) (wd a v live page : ℕ) (shape : Shape) → shape ≡ shape_at x.state.registers → (entry : Option ℕ)
    → entry ≡ hit_in x.state.cache.held x.state.cache.valid (line_of a) → (latest : Version)
    → latest
    ≡ latest_from x.state.cache.origins x.state.cache.bytes
    (newest_of (written_at shape x.memory.groups x.memory.history) x.state.registers.pages live x.memory.archive x.memory.pool x.memory.table (line_of a)) entry
    → (content : Line) → content ≡ edit wd (offset_of a) v latest.content → length content ≡ 16 → (pool groups table owners : List ℕ)
    → pool ≡ with_page_line x.memory.pool page (line_of a % 8) content
    → groups ≡ with_written (written_at shape x.memory.groups x.memory.history) (x.state.registers.tag % 256) (line_of a) (live - 1)
    → table ≡ set x.memory.table (entry_at shape.lines (frame_at shape.frames shape.omf (live - 1)) (line_of a / 8)) page
    → owners ≡ set x.memory.owners page (place_at (frame_at shape.frames shape.omf (live - 1)) (line_of a / 8))
    → (cache : Cache) → cache ≡ placed_in x.state.cache (line_of a) x.state.registers.cmf content
    → Put x wd a v live page cache (memory_of x.memory.archive pool groups table owners x.memory.history)
put-told x wd a v live page shape is entry at_entry_lem latest found content edited whole pool groups table owners ep eg et eo cache e =
    record {
      content = content;
      content_is =
          edited
          ∙ ap (λ (y : Version). edit wd (offset_of a) v y.content)
          (latest-held x.state.cache.held x.state.cache.origins x.state.cache.valid x.state.cache.bytes (written_at shape x.memory.groups x.memory.history) x.state.registers.pages live (line_of a)
          x.memory.archive x.memory.pool x.memory.table entry at_entry_lem latest found
          ∙ ap (λ (y : Shape). latest_of x.state.cache (written_at y x.memory.groups x.memory.history) x.state.registers.pages live x.memory.archive x.memory.pool x.memory.table (line_of a)) is);
      content_long = whole;
      cache_is = e;
      memory_is = λ i. memory_of x.memory.archive (ep i)
          ((eg ∙ ap (λ (y : Shape). with_written (written_at y x.memory.groups x.memory.history) (x.state.registers.tag % 256) (line_of a) (live - 1)) is) i)
          ((et ∙ ap (λ (y : Shape). set x.memory.table (entry_at y.lines (frame_at y.frames y.omf (live - 1)) (line_of a / 8)) page) is) i)
          ((eo ∙ ap (λ (y : Shape). set x.memory.owners page (place_at (frame_at y.frames y.omf (live - 1)) (line_of a / 8))) is) i) x.memory.history;
    }

-- Turned down by 5 or 6, the lengths measured being the lent pieces'.
pub write-turned : (x : Storage) (wd a v r : ℕ) (p : Pieces) → p ≡ lengths_in x.memory → r ≡ admitted (registers_in x.state) p 0 → r ≢ 0 → Writes x wd a v r x
unfolding refusal act_refusal facts_by refused
write-turned x wd a v r p are given z = (
  turned_down x (ON (CHANGE (WRITE wd a v))) r
      (admitted-turned (registers_in x.state) (lengths_in x.memory) r (told_in x 0 r p are given) _ z) z,
  λ e. absurd (z e),
)

-- Past them and past 7 to 10: what the search for the page asks,
pub write-page-asks : (s : rules.Registers) (p : Pieces) (r wd a v : ℕ) → admitted s p 0 ≡ 0 → r ≡ write_refusal s.settings wd a v 0 → r ≡ 0 → (first used : ℕ) (ring : Ring)
    → ring ≡ seen s.settings.lines s.settings.frames s.omf s.settings.pages first used
    → AsksPageFor ring.shape.lines ring.shape.frames ring.shape.omf ring.pages ring.first ring.used s.cmf (line_of a) p.table p.owners
write-page-asks s p r wd a v let-in own z first used ring ring-is =
    let g = (write-room s p r wd a v let-in own z).0 in
    seen-page-asks s p g.room first used ring ring-is (line_of a) g.line_below

-- and what the tests say.
module _ (x : Storage) (wd a v r : ℕ) (let-in : admitted_in x 0 ≡ 0) (own : r ≡ write_refusal (settings_in x.state) wd a v 0) where
  abbrev l : ℕ
  l = line_of a

  told : r ≡ admitted_in x (write_refusal (settings_in x.state) wd a v 0)
  told = admitted-on (registers_in x.state) (lengths_in x.memory) 0 (sym let-in) refl r (write_refusal (settings_in x.state) wd a v 0) own

  pub write-refused : r ≢ 0 → Writes x wd a v r x
  unfolding refusal act_refusal facts_by refused
  write-refused z = (
    turned_down x (ON (CHANGE (WRITE wd a v))) r (write-stands (registers_in x.state) (lengths_in x.memory) wd a v r told z _) z,
    λ e. absurd (z e),
  )

  -- None refused: the ring that the code sees, the page that it asks for, and how many are in use then.
  module _ (z : r ≡ 0) (ring : Ring) (ring-is : ring ≡ ring_at x.state.registers) where
    abbrev choice : Option ℕ
    choice = page_for ring.shape.lines ring.pages ring.first ring.used x.memory.table x.memory.owners x.state.registers.cmf l

    abbrev used-next : ℕ
    used-next = used_for ring.shape.lines ring.pages ring.first ring.used x.memory.table x.memory.owners x.state.registers.cmf l

    -- the same by the registers
    abbrev chosen-page : Option ℕ
    chosen-page = page_for x.state.registers.lines x.state.registers.pages (ring_at x.state.registers).first (ring_at x.state.registers).used x.memory.table x.memory.owners x.state.registers.cmf l

    abbrev used-then : ℕ
    used-then = used_for x.state.registers.lines x.state.registers.pages (ring_at x.state.registers).first (ring_at x.state.registers).used x.memory.table x.memory.owners x.state.registers.cmf l

    seen-choice : (picked : Option ℕ) → picked ≡ choice → picked ≡ chosen-page
    seen-choice picked e = e ∙ ap (λ (y : Ring). page_for y.shape.lines y.pages y.first y.used x.memory.table x.memory.owners x.state.registers.cmf l) ring-is

    seen_next : (next : ℕ) → next ≡ used-next → next ≡ used-then
    seen_next next e = e ∙ ap (λ (y : Ring). used_for y.shape.lines y.pages y.first y.used x.memory.table x.memory.owners x.state.registers.cmf l) ring-is

    decides : (rest : ℕ) → rest ≡ admitted_in x (write_refusal (settings_in x.state) wd a v rest)
    decides = write-decides (registers_in x.state) (lengths_in x.memory) wd a v r told z

    place-room : PlaceRoom (registers_in x.state) (lengths_in x.memory) wd a × Placed (settings_in x.state) wd a
    place-room = write-room (registers_in x.state) (lengths_in x.memory) r wd a v let-in own z

    below : l < x.state.registers.lines
    below = place-room.0.line_below

    room : Room (registers_in x.state) (lengths_in x.memory)
    room = place-room.0.room

    page_few : (page : ℕ) → chosen-page ≡ Some page → page < x.state.registers.pages
    page_few page found =
        page_below x.state.registers.lines x.state.registers.pages (ring_at x.state.registers).first (ring_at x.state.registers).used x.memory.table x.memory.owners x.state.registers.cmf l page
        (start-below x.state.registers.first x.state.registers.pages room.pages_from) found

    -- what the layers ask
    pub asks_write : (picked : Option ℕ) → picked ≡ choice → (live page : ℕ) → live ≡ live_in x.state → picked ≡ Some page → AsksWrite x wd a live page
    unfolding elements
    asks_write picked picked-is live page e at-page =
        let newest = room-newest (registers_in x.state) (length x.memory.owners) x.memory.archive x.memory.pool x.memory.groups x.memory.table x.memory.history room live l e below in
        record {
          newest = newest;
          put =
              record {
                asks = newest.asks;
                line_below = below;
                index_below = omega (arith, newest.live_some, newest.live_within);
                tag_below = omega arith;
                pages_few = room.pages_to;
                page_below = page_few page (sym (seen-choice picked picked-is) ∙ at-page);
                pool_long = room.pool_long;
                owners_long = omega (arith, room.owners_long);
              };
          bytes = place-room.0.bytes;
          cmf_below = room.cmf_below;
        }

    -- 13
    pub write-full : (picked : Option ℕ) → picked ≡ choice → picked ≡ None → Writes x wd a v 13 x
    unfolding refusal act_refusal facts_by refused unless lacks
    write-full picked picked-is e = (
      subst (λ (n : ℕ). Promise store (ON (CHANGE (WRITE wd a v))) x (outcome n) x) (sym (decides 13))
          (refuse store (ON (CHANGE (WRITE wd a v))) x (λ c. true) (λ q. lacking-own store x (CHANGE (WRITE wd a v)) true (sym (none-chosen x q l below (sym (seen-choice picked picked-is) ∙ e)))) (λ d. let n : ◌≡◌ {A = ℕ} 13 0 = decides 13 ∙ d in absurd (omega arith))),
      λ d. absurd (omega arith),
    )

    module _ (picked : Option ℕ) (picked-is : picked ≡ choice) (page : ℕ) (at-page : picked ≡ Some page) (live : ℕ) (live-is : live ≡ live_in x.state) (cache : Cache) (memory : Lent) (put : Put x wd a v live page cache memory)
        (next : ℕ) (next_is : next ≡ used-next) where
      abbrev t : Storage
      t = record { state = state_of (given_registers x.state.registers next) cache; memory = memory }

      found : chosen-page ≡ Some page
      found = sym (seen-choice picked picked-is) ∙ at-page

      below-pages : page < x.state.registers.pages
      below-pages = page_few page found

      -- Inside the lent memory, on any storage.
      abbrev entry : ℕ
      entry = entry_at x.state.registers.lines (frame_at x.state.registers.frames x.state.registers.omf (live - 1)) (l / 8)

      abbrev place : ℕ
      place = place_at (frame_at x.state.registers.frames x.state.registers.omf (live - 1)) (l / 8)

      pool-room : 128 * x.state.registers.pages ≤ length x.memory.pool
      unfolding elements
      pool-room = room.pool_long

      abbrev at : ℕ
      at = 128 * page + 16 * (l % 8)

      lengths : lengths_in t.memory ≡ lengths_in x.memory
      lengths =
          ap lengths_in put.memory_is
          ∙ (λ i.
          record {
            archive = length x.memory.archive;
            pool = length-written x.memory.pool put.content at (omega (arith, pool-room, below-pages)) put.content_long i;
            groups = written-long (written_in x) (x.state.registers.tag % 256) l (live - 1) i;
            table = length-set x.memory.table entry page i;
            owners = length-set x.memory.owners page place i;
            history = length x.memory.history;
          })

      past : past_in (elements (settings_in x.state)) t.memory ≡ past_in (elements (settings_in x.state)) x.memory
      unfolding elements
      past =
          ap (past_in (elements (settings_in x.state))) put.memory_is
          ∙ (λ i.
          memory_of (drop (16 * x.state.registers.lines) x.memory.archive)
          (past-written x.memory.pool put.content at (omega (arith, pool-room, below-pages)) put.content_long (128 * x.state.registers.pages) (omega (arith, below-pages)) i)
          (written-past (written_in x) (x.state.registers.tag % 256) l (live - 1) lent below i)
          (drop-set-lt (x.state.registers.frames * (x.state.registers.lines / 8)) x.memory.table entry page (entry-within x.state.registers.lines x.state.registers.frames (frame_at x.state.registers.frames x.state.registers.omf (live - 1)) l room.lines_by (frame_below x.state.registers.frames x.state.registers.omf room.omf_below (live - 1)) below) i)
          (drop-set-lt (x.state.registers.pages + x.state.registers.lines) x.memory.owners page place (omega (arith, below-pages)) i)
          (drop 256 x.memory.history))
        where
          lent : AsksWritten (written_in x)
          lent =
              room-lent (registers_in x.state) (length x.memory.archive) (length x.memory.pool) (length x.memory.table) (length x.memory.owners) x.memory.groups x.memory.history room

      -- What it is on well-formed storage.
      module _ (q : WellStore x) where
        abbrev c : Chosen x q l below page used-then
        c = chosen x q l below page found

        same-content : put.content ≡ content_after x wd a v
        unfolding content_after
        same-content =
            put.content_is
            ∙ (ap (λ (m : ℕ). edit wd (offset_of a) v (latest_of x.state.cache (written_in x) x.state.registers.pages m x.memory.archive x.memory.pool x.memory.table l).content) live-is
            ∙ ap (edit wd (offset_of a) v) (latest-told x q l below _ refl).0)

        same-state : t.state ≡ used_state x.state used-then (placed_in x.state.cache l x.state.registers.cmf (content_after x wd a v))
        unfolding used_state
        same-state =
            ap₂ (λ (n : ℕ) (y : Cache). state_of (given_registers x.state.registers n) y) (seen_next next next_is)
            (put.cache_is ∙ ap (placed_in x.state.cache l x.state.registers.cmf) same-content)

        same_memory : t.memory
            ≡ memory_of x.memory.archive (with_page_line x.memory.pool page (l % 8) (content_after x wd a v)) (with_written (written_in x) x.state.registers.tag l (live_in x.state - 1))
            (set x.memory.table (current_entry x l) page) (set x.memory.owners page (current_place x l)) x.memory.history
        same_memory =
            let tag : x.state.registers.tag % 256 ≡ x.state.registers.tag = omega (arith, q.bits.tag_below) in
            put.memory_is
            ∙ (λ i.
            memory_of x.memory.archive (with_page_line x.memory.pool page (l % 8) (same-content i)) (with_written (written_in x) (tag i) l (live-is i - 1))
            (set x.memory.table (entry_at x.state.registers.lines (frame_at x.state.registers.frames x.state.registers.omf (live-is i - 1)) (l / 8)) page)
            (set x.memory.owners page (place_at (frame_at x.state.registers.frames x.state.registers.omf (live-is i - 1)) (l / 8))) x.memory.history)

        write-left : WroteTo x wd a v t
        write-left =
            record {
              state = same-state ∙ ap (λ (u : ℕ). used_state x.state u (placed_in x.state.cache l x.state.registers.cmf (content_after x wd a v))) c.used_is;
              memory =
                  same_memory
                  ∙ ap
                  (λ (p : ℕ). memory_of x.memory.archive (with_page_line x.memory.pool p (l % 8) (content_after x wd a v)) (with_written (written_in x) x.state.registers.tag l (live_in x.state - 1))
                  (set x.memory.table (current_entry x l) p) (set x.memory.owners p (current_place x l)) x.memory.history) c.page_is;
            }

        followed : Followed store (CHANGE (WRITE wd a v)) x (outcome 0) t
        unfolding content_after
        followed =
            subst (λ (y : Storage). Followed store (CHANGE (WRITE wd a v)) x (outcome 0) y) (sym (λ i. record { state = same-state i; memory = same_memory i }))
            (stored-followed x q wd a v place-room.1 below used-then page c)

      pub write_done : Writes x wd a v 0 t
      unfolding refusal act_refusal facts_by refused unless settings_for lacks registers_step
      write_done = (
        accept store (ON (CHANGE (WRITE wd a v))) x (λ c. false) (λ q. lacking-own store x (CHANGE (WRITE wd a v)) false (sym (c q).free)) (sym (decides 0)) refl
            (record { registers = refl; followed = followed }) lengths past,
        λ e. write-left,
      )
