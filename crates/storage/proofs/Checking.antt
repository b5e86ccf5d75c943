-- CHECK keeps its promise: its tests, one after the other, decide the well-formedness. Assumes nothing.
use mathlib.Core.Path.{◌≡◌, refl, sym, ◌∙◌, ap, subst}
use mathlib.Core.Logic.{◌≢◌}
use mathlib.Core.Bool.{Bool, true, false, not, cond}
use mathlib.Core.Option.{none, some, none-ne-some, some-injective}
use mathlib.Core.List.{List}
use Prim.Native.Nat.{ℕ, ◌+◌, ◌*◌, ◌/◌, ◌%◌, ◌<◌}
use native.Mathlib.Decide.{dec_lt, ℕ_discrete}
use native.Mathlib.Omega.{arith}
use borrow.Author.Tests.{lt-ltb}
use lib.ListN.{length}
use Rattle.rules.specs.Settings.{Settings, Pieces, elements, enough}
use Rattle.rules.specs.Sizing.{settings_of}
use Rattle.rules.specs.Line.{Line, IsLine, zeros}
use Rattle.rules.specs.Call.{refused}
use Rattle.rules.specs.Call.Answer.{verdict}
use Rattle.rules.specs.Call.Call.{CHECK}
use Rattle.rules.specs.Registers.{Registers, live_frames, state_fits}
use Rattle.rules.specs.Refusal.{refusal, state_refusal, facts_by}
use Rattle.rules.specs.Figure2.{initial}
use Rattle.rules.specs.Figure3.{WellCache}
use Rattle.rules.specs.Promise.{Promise}
use Rattle.rules.proofs.Settings.{within-good}
use Rattle.rules.proofs.Chain.{passed}
use Rattle.rules.proofs.WellSteps.{initial-well}
use Rattle.lists.proofs.Lines.{is-line}
use Rattle.written.specs.Bits.{written_of, effective}
use Rattle.written.specs.Well.{WellBits}
use Rattle.pages.specs.Lines.{archive_line}
use Rattle.pages.specs.Ring.{WellRing}
use Rattle.cache.specs.declared.Cache.{Cache}
use Rattle.cache.specs.Entries.{Sized, All, held_line, is_valid}
use Rattle.cache.specs.Shown.{line_in, shown}
use Rattle.versions.specs.declared.Version.{Version}
use Rattle.versions.specs.Newest.{page_of, newest_of}
use Rattle.wellformed.specs.Decision.{Decides}
use Rattle.wellformed.specs.Parts.{RecentIn, WellArchive, Bytes, AsksBits, AsksRecent}
use Rattle.wellformed.proofs.Deciding.{passes}
use Rattle.storage.specs.Storage.{Storage, settings_in, registers_in, live_in, lengths_in, written_in, index_back, version_at, frame_in, archive_in, latest_in, newest_frame, WellStore, store}
use Rattle.storage.specs.Admit.{admitted, Room}
use Rattle.storage.proofs.Admitting.{admitted-room, room-lent, room-newest}
use Rattle.storage.proofs.Looking.{admitted_in, told_in, turned_down, let_through}
use Rattle.storage.proofs.Figures.{frame-live, frame_past, frame-at, archive-past}
use Rattle.storage.proofs.Reading.{Findable, well-findable, page-known, newest-told}

-- A valid entry of a well-formed cache has a line below L.
entry_below : (s : Settings) (c : Cache) (e : ℕ) → WellCache s (shown c) → is_valid c e ≡ true → held_line c e < s.lines
unfolding shown line_in
entry_below s c e q v = go (ℕ_discrete (e % 2) 0)
  where
    in-way : (x : ℕ) → x ≡ e → line_in c x ≡ some (held_line c e)
    in-way x d = subst (λ (y : ℕ). line_in c y ≡ some (held_line c e)) (sym d) (ap (λ (b : Bool). cond b (some (held_line c e)) none) v)

    go : Dec (e % 2 ≡ 0) → held_line c e < s.lines
    go (yes d) = (q.first (e / 2) (held_line c e) (in-way (2 * (e / 2)) (omega arith))).1
    go (no d) = (q.second (e / 2) (held_line c e) (in-way (2 * (e / 2) + 1) (omega arith))).1

-- What the tests ask, of an admitted state and lent memory.
module _ (s : Registers) (archive pool table owners live : ℕ) (groups history : List ℕ)
    (r : Room s (record { archive = archive; pool = pool; groups = length groups; table = table; owners = owners; history = length history }))
    (counted : live ≡ live_frames s) where
  pub room-bits : AsksBits (written_of s.settings.lines s.settings.frames s.omf groups history) live
  room-bits =
      record {
        lent = room-lent s archive pool table owners groups history r;
        lines_by = r.lines_by;
        live_within = omega (arith, counted, r.live_most);
      }

module _ (s : Registers) (owners live : ℕ) (archive pool groups table history : List ℕ)
    (r : Room s (record { archive = length archive; pool = length pool; groups = length groups; table = length table; owners = owners; history = length history }))
    (counted : live ≡ live_frames s) where
  pub room-recent : AsksRecent (written_of s.settings.lines s.settings.frames s.omf groups history) s.settings.pages live archive pool table
  room-recent =
      let n = room-newest s owners archive pool groups table history r live 0 counted (omega (arith, r.lines_from)) in
      record {
        asks = n.asks;
        live_some = n.live_some;
        live_within = n.live_within;
        pages_few = n.pages_few;
        archive_long = n.archive_long;
        pool_long = n.pool_long;
      }

-- What an admitted state and lent memory have.
module _ (x : Storage) (z : admitted_in x 0 ≡ 0) where
  admitted-fits : state_fits (registers_in x.state) ≡ true
  unfolding state_refusal facts_by
  admitted-fits = (passed (state_fits (registers_in x.state)) 5 _ (omega arith) z).0

  admitted-long : enough (settings_in x.state) (lengths_in x.memory) ≡ true
  unfolding state_refusal facts_by
  admitted-long =
      (passed (enough (settings_in x.state) (lengths_in x.memory)) 6 0 (omega arith)
      (passed (state_fits (registers_in x.state)) 5 _ (omega arith) z).1).0

  room : Room (registers_in x.state) (lengths_in x.memory)
  room = admitted-room _ _ _ 0 refl z

  -- Lent bytes make lines.
  collected_lines : Bytes (16 * x.state.registers.lines) x.memory.archive → (l : ℕ) → IsLine (archive_in x l)
  unfolding archive_in elements initial
  collected_lines bytes l = go (dec_lt l x.state.registers.lines)
    where
      go : Dec (l < x.state.registers.lines) → IsLine (archive_in x l)
      go (yes b) =
          subst IsLine (sym (ap (λ (t : Bool). cond t (archive_line x.memory.archive l) zeros) (lt-ltb l x.state.registers.lines b)))
          (is-line x.memory.archive (16 * l) (omega (arith, room.archive_long)) (λ i h. bytes i (omega arith)))
      go (no b) = subst IsLine (sym (archive-past x l (omega arith))) ((initial-well (settings_in x.state) (within-good _ room.limits)).archive_line l)

  module _ (q : Findable x) (bytes : Bytes (128 * x.state.registers.pages) x.memory.pool) where
    version_line : (i l : ℕ) → i < live_in x.state → l < x.state.registers.lines → effective (written_in x) i l ≡ true → IsLine (version_at x i l)
    unfolding version_at page_of elements
    version_line i l h b e =
        let p = page-known x q i l h b e in
        is-line x.memory.pool _ (omega (arith, p, room.pool_long)) (λ k c. bytes k (omega (arith, p)))

    version-lines : (j l : ℕ) (v : Line) → frame_in x j l ≡ some v → IsLine v
    version-lines j l v e = go (dec_lt j (live_in x.state)) (dec_lt l x.state.registers.lines)
      where
        some-line : (t : Bool) (w : Line) → (t ≡ true → IsLine w) → cond t (some w) none ≡ some v → IsLine v
        some-line true w h d = subst IsLine (some-injective w v d) (h refl)
        some-line false w h d = absurd (none-ne-some v d)

        go : Dec (j < live_in x.state) → Dec (l < x.state.registers.lines) → IsLine v
        go (yes h) (yes b) =
            some-line (effective (written_in x) (index_back x.state j) l) (version_at x (index_back x.state j) l)
            (version_line (index_back x.state j) l (omega arith) b) (sym (frame-at x j l h b) ∙ e)
        go (yes h) (no b) = absurd (none-ne-some v (sym (frame_past x j l (omega arith)) ∙ e))
        go (no h) b = absurd (none-ne-some v (sym (frame-live x j l (omega arith)) ∙ e))

-- The parts of well-formed storage, each as its test decides it: the written bits,
pub bits-part : (x : Storage) (live : ℕ) → live ≡ live_in x.state → WellStore x → WellBits (written_in x) x.state.registers.tag live
bits-part x live counted q = subst (WellBits (written_in x) x.state.registers.tag) (sym counted) q.bits

-- the cache's entries,
pub entries-part : (x : Storage) → WellStore x → WellCache (settings_of x.state.registers.lines 0 0) (shown x.state.cache)
entries-part x q = record { first = q.entries.first; second = q.entries.second; once = q.entries.once }

-- and their bytes and frames; the test of these comes last and decides the whole.
module _ (x : Storage) (z : admitted_in x 0 ≡ 0) (live : ℕ) (counted : live ≡ live_in x.state) where
  abbrev newest : ℕ → Version
  newest l = newest_of (written_in x) x.state.registers.pages live x.memory.archive x.memory.pool x.memory.table l

  newest-is : Findable x → (l : ℕ) → l < x.state.registers.lines → ((newest l).content ≡ latest_in x l) × ((newest l).frame ≡ newest_frame x l)
  newest-is q l b =
      let r = newest-told x q l b (newest l) (ap (λ (n : ℕ). newest_of (written_in x) x.state.registers.pages n x.memory.archive x.memory.pool x.memory.table l) counted) in
      (r.0, r.1)

  abbrev RecentAll : Type 0
  RecentAll = All (RecentIn (written_in x) x.state.registers.pages live x.memory.archive x.memory.pool x.memory.table) x.state.cache

  recent-part : WellStore x → RecentAll
  recent-part q e v =
      let b = entry_below (settings_in x.state) x.state.cache e q.entries v in
      let c = q.coherent e v in
      let n = newest-is (well-findable x q) (held_line x.state.cache e) b in
      (b, c.0 ∙ sym n.0, c.1 ∙ sym n.1)

  pub well-decided : (b p c k r : Bool) → Decides b (WellBits (written_in x) x.state.registers.tag live) → not b ≡ false
      → Decides p (WellRing (written_in x) x.state.registers.pages x.state.registers.first x.state.registers.used x.memory.table x.memory.owners)
      → not p ≡ false → Decides c (WellCache (settings_of x.state.registers.lines 0 0) (shown x.state.cache)) → not c ≡ false
      → Decides k (WellArchive x.state.registers.lines x.state.registers.pages x.memory.archive x.memory.owners) → not k ≡ false
      → Bytes (16 * x.state.registers.lines) x.memory.archive → Bytes (128 * x.state.registers.pages) x.memory.pool → Sized x.state.cache → Decides r RecentAll → Decides r (WellStore x)
  well-decided b p c k r bits bits-pass pages pages-pass cache cache-pass zeroed zeroed-pass archive pool sized recent =
      record { only = λ e. well (recent.only e); always = λ q. recent.always (recent-part q) }
    where
      entries : WellCache (settings_of x.state.registers.lines 0 0) (shown x.state.cache)
      entries = passes c cache cache-pass

      findable : Findable x
      findable = record { fits = admitted-fits x z; pages = passes p pages pages-pass }

      well : RecentAll → WellStore x
      well all =
          record {
            fits = admitted-fits x z;
            long = admitted-long x z;
            bits = subst (WellBits (written_in x) x.state.registers.tag) counted (passes b bits bits-pass);
            pages = findable.pages;
            archive_empty = passes k zeroed zeroed-pass;
            sized = sized;
            version_line = version-lines x z findable pool;
            archive_line = collected_lines x z archive;
            entries = record { first = entries.first; second = entries.second; once = entries.once };
            coherent = λ e v.
                let a = all e v in
                let n = newest-is findable (held_line x.state.cache e) a.0 in
                (a.1 ∙ n.0, a.2 ∙ n.1);
          }

-- CHECK
module _ (x : Storage) (a : ℕ) (p : Pieces) (are : p ≡ lengths_in x.memory) (given : a ≡ admitted (registers_in x.state) p 0) where
  told : a ≡ admitted_in x 0
  told = told_in x 0 a p are given

  pub check-refused : a ≢ 0 → Promise store CHECK x (verdict a false) x
  unfolding refusal refused
  check-refused z = turned_down x CHECK a told z

  pub check-told : a ≡ 0 → (says : Bool) → Decides says (WellStore x) → Promise store CHECK x (verdict 0 says) x
  unfolding refusal refused
  check-told z says d =
      let_through x CHECK a told z refl (record { kept = refl; says = says; answer = refl; only = d.only; always = d.always }) refl refl
