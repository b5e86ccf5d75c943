-- Where the newest version of a line stands and what it is: on well-formed storage the code finds what Figure 2 does. Assumes nothing.
use Rattle.std.specs.Prelude.{Option, Some, None}
use mathlib.Core.Path.{◌≡◌, refl, sym, ◌∙◌, ap, ap₂}
use mathlib.Core.Bool.{Bool, true, false, cond, not, ◌&&◌, ◌||◌}
use mathlib.Core.Option.{none, some}
use Prim.Native.Nat.{ℕ, ◌-◌, ◌/◌, ◌<◌}
use native.Mathlib.Omega.{arith}
use borrow.Author.Tests.{lt-ltb, eq-eqb, ne_eqb}
use lib.Dec.{eqb}
use lib.ListN.{get_or}
use Rattle.rules.specs.Line.{IsLine, zeros}
use Rattle.rules.specs.Call.{Place}
use Rattle.rules.specs.Call.Place.{in_frame, in_archive}
use Rattle.rules.specs.Call.Origin.{from_cache, from, empty}
use Rattle.rules.specs.Seen.{any}
use Rattle.rules.specs.Registers.{state_fits}
use Rattle.rules.specs.Figure2.{found_in, is_written, figure_seen}
use Rattle.rules.specs.Figure3.{holds}
use Rattle.rules.specs.Promise.{seen_of}
use Rattle.rules.proofs.History.{version_line}
use Rattle.frames.specs.Circle.{frame_at}
use Rattle.numbers.specs.Search.{greatest}
use Rattle.frames.proofs.Circle.{frame_below}
use Rattle.numbers.proofs.Search.{Greatest, greatest-found}
use Rattle.written.specs.Bits.{effective, newest_from}
use Rattle.written.proofs.Finding.{back_of, version_of, found_back, version-back}
use Rattle.pages.specs.Lines.{archive_line}
use Rattle.pages.specs.Table.{place_at}
use Rattle.pages.specs.Ring.{WellRing}
use Rattle.pages.specs.Flags.{collected_at}
use Rattle.pages.proofs.Needs.{effective-needed}
use Rattle.cache.specs.Entries.{found, is_hit}
use Rattle.cache.specs.Shown.{shown}
use Rattle.cache.specs.Steps.{archive_frame}
use Rattle.cache.proofs.Hits.{hit-shown, found_at}
use Rattle.versions.specs.declared.Version.{Version}
use Rattle.versions.specs.declared.Origin.TheVariants as origin
use Rattle.versions.specs.Newest.{page_of, spot_of, content_of, number_of, back_in, origin_of, is_empty, empty_or, newest_of, latest_from, latest_held, latest_of}
use Rattle.versions.proofs.Finding.{place-entry}
use Rattle.storage.specs.Storage.{Storage, registers_in, live_in, written_in, version_at, frame_in, archive_in, collected_in, latest_in, frame_number, newest_frame, WellStore, store}
use Rattle.storage.proofs.Limits.{Limits, limits}
use Rattle.storage.proofs.Counting.{written-effective}
use Rattle.storage.proofs.Figures.{frame-at, collected-at}
use Rattle.storage.proofs.Rows.{version-same, found-same, archive-none, frame-some}

-- What the search for a line's newest version asks of storage.
pub record Findable (x : Storage) : Type 0 where
  pub fits : state_fits (registers_in x.state) ≡ true
  pub pages :
      WellRing (written_in x) x.state.registers.pages x.state.registers.first x.state.registers.used x.memory.table x.memory.owners

pub well-findable : (x : Storage) → WellStore x → Findable x
well-findable x q = record { fits = q.fits; pages = q.pages }

module _ (x : Storage) (q : Findable x) where
  abbrev n : ℕ
  n = live_in x.state

  abbrev lim : Limits x
  lim = limits x q.fits

  abbrev pub page : (index line : ℕ) → ℕ
  page i l = page_of x.state.registers.lines x.state.registers.frames x.state.registers.omf x.memory.table i l

  -- A version stands in a page of the pool.
  pub page-known : (i l : ℕ) → i < n → l < x.state.registers.lines → effective (written_in x) i l ≡ true → page i l < x.state.registers.pages
  unfolding page_of
  page-known i l h b e =
      let block : l / 8 < x.state.registers.lines / 8 = omega (arith, lim.good.lines_by) in
      let f : ℕ = frame_at x.state.registers.frames x.state.registers.omf i in
      let few : f < x.state.registers.frames = frame_below x.state.registers.frames x.state.registers.omf lim.fits.omf_below i in
      let k = q.pages.paged (place_at f (l / 8)) (omega (arith, lim.good.lines_to)) (effective-needed (written_in x) i l lim.good.lines_to lim.fits.omf_below (omega (arith, lim.live_most)) block e) in
      omega (arith, k.page_below, ap (λ (y : ℕ). get_or x.memory.table y 0) (place-entry (written_in x) f l lim.good.lines_to b))

  module _ (l : ℕ) (b : l < x.state.registers.lines) where
    abbrev bits : ℕ → Bool
    bits i = effective (written_in x) i l

    abbrev pub newest : Option ℕ
    newest = newest_from (written_in x) l (n - 1)

    newest-is : newest ≡ greatest n bits
    unfolding newest_from
    newest-is = ap (λ (m : ℕ). greatest m bits) (omega (arith, lim.live_some))

    pub newest-facts : (i : ℕ) → newest ≡ Some i → Greatest n bits i
    newest-facts i e = greatest-found n bits i (sym newest-is ∙ e)

    -- its bytes
    latest-found : latest_in x l ≡ version_of (λ i. version_at x i l) (archive_in x l) newest
    unfolding latest_in
    latest-found =
        version-same n (λ j. frame_in x j l) (λ j. cond (bits (n - 1 - j)) (some (version_at x (n - 1 - j) l)) none) (archive_in x l) (λ j h. frame-at x j l h b)
        ∙ (version-back n bits (λ i. version_at x i l) (archive_in x l) ∙ ap (version_of (λ i. version_at x i l) (archive_in x l)) (sym newest-is))

    -- a version that a search found stands where the code looks for it
    pub version-content : (r : Option ℕ) → ((i : ℕ) → r ≡ Some i → (i < n) × (bits i ≡ true))
        → content_of x.memory.archive x.memory.pool l (spot_of x.state.registers.lines x.state.registers.frames x.state.registers.omf x.state.registers.pages x.memory.table l r)
        ≡ version_of (λ i. version_at x i l) (archive_in x l) r
    unfolding content_of spot_of version_of version_at archive_in page_of
    version-content (Some i) h =
        let g = h i refl in
        ap (λ (t : Bool). content_of x.memory.archive x.memory.pool l (cond t (Some (page i l)) None)) (lt-ltb (page i l) x.state.registers.pages (page-known i l g.0 b g.1))
    version-content None h = sym (ap (λ (t : Bool). cond t (archive_line x.memory.archive l) zeros) (lt-ltb l x.state.registers.lines b))

    pub content-latest : content_of x.memory.archive x.memory.pool l (spot_of x.state.registers.lines x.state.registers.frames x.state.registers.omf x.state.registers.pages x.memory.table l newest)
        ≡ latest_in x l
    content-latest = version-content newest (λ i e. ((newest-facts i e).below, (newest-facts i e).passes)) ∙ sym latest-found

    -- and its frame
    origin-found : found_in n (λ j. is_written (frame_in x j l)) ≡ back_of n newest
    origin-found =
        found-same n (λ j. is_written (frame_in x j l)) (λ j. bits (n - 1 - j)) (λ j h. sym (written-effective x j l h b))
        ∙ (found_back n bits ∙ ap (back_of n) (sym newest-is))

    numbered : (r : Option ℕ) → ((i : ℕ) → r ≡ Some i → Greatest n bits i) → number_of x.state.registers.frames x.state.registers.omf r ≡ frame_number x.state (back_of n r)
    unfolding number_of frame_number back_of
    numbered (Some i) h =
        let g = h i refl in
        ap (frame_at x.state.registers.frames x.state.registers.omf) (turned n i g.below)
      where
        turned : (n i : ℕ) → i < n → i ≡ n - 1 - (n - 1 - i)
        turned n i b = omega arith
    numbered None h = refl

    pub number-newest : number_of x.state.registers.frames x.state.registers.omf newest ≡ newest_frame x l
    unfolding newest_frame
    number-newest = numbered newest newest-facts ∙ ap (frame_number x.state) (sym origin-found)

    backed : (r : Option ℕ) → origin_of (back_in n r) ≡ from (back_of n r)
    unfolding origin_of back_in back_of
    backed (Some i) = refl
    backed None = refl

    -- The version found by the code is the most recent one, with its frame and its origin,
    pub newest-told : (v : Version) → v ≡ newest_of (written_in x) x.state.registers.pages n x.memory.archive x.memory.pool x.memory.table l
        → (v.content ≡ latest_in x l) × (v.frame ≡ newest_frame x l) × (origin_of v.origin ≡ from ((seen_of store x).origin l))
    unfolding newest_of seen_of figure_seen
    newest-told v e =
        (ap (λ (w : Version). w.content) e ∙ content-latest, ap (λ (w : Version). w.frame) e ∙ number-newest, ap (λ (w : Version). origin_of w.origin) e ∙ (backed newest ∙ ap from (sym origin-found)))

module _ (x : Storage) (q : WellStore x) (l : ℕ) (b : l < x.state.registers.lines) where
  -- and so is the one that the cache has.
  pub latest-told : (v : Version) → v ≡ latest_of x.state.cache (written_in x) x.state.registers.pages (live_in x.state) x.memory.archive x.memory.pool x.memory.table l
      → (v.content ≡ latest_in x l) × (v.frame ≡ newest_frame x l)
      × (origin_of v.origin ≡ cond (holds (shown x.state.cache) l) from_cache (from ((seen_of store x).origin l)))
  unfolding latest_held latest_from origin_of is_hit
  latest-told v e = go (found x.state.cache l) refl
    where
      go : (r : Option ℕ) → found x.state.cache l ≡ r
          → (v.content ≡ latest_in x l) × (v.frame ≡ newest_frame x l)
          × (origin_of v.origin ≡ cond (holds (shown x.state.cache) l) from_cache (from ((seen_of store x).origin l)))
      go (Some h) d =
          let f = found_at x.state.cache l h d in
          let c = q.coherent h f.valid in
          let is = e ∙ ap (latest_from x.state.cache.origins x.state.cache.bytes _) d in (
            ap (λ (w : Version). w.content) is ∙ (c.0 ∙ ap (latest_in x) f.line),
            ap (λ (w : Version). w.frame) is ∙ (c.1 ∙ ap (newest_frame x) f.line),
            ap (λ (w : Version). origin_of w.origin) is ∙ sym (ap (λ (t : Bool). cond t from_cache (from ((seen_of store x).origin l))) (sym (hit-shown x.state.cache l) ∙ ap is_hit d)),
          )
      go None d =
          let r = newest-told x (well-findable x q) l b v (e ∙ ap (latest_from x.state.cache.origins x.state.cache.bytes _) d) in
          (r.0, r.1, r.2 ∙ sym (ap (λ (t : Bool). cond t from_cache (from ((seen_of store x).origin l))) (sym (hit-shown x.state.cache l) ∙ ap is_hit d)))

  -- The origin named is the cache's or where the version lies, and none where no surviving write has touched the line.
  pub origin-named : (v : Version) → v.frame ≡ newest_frame x l → origin_of v.origin ≡ cond (holds (shown x.state.cache) l) from_cache (from ((seen_of store x).origin l))
      → origin_of (empty_or (collected_at x.state.registers.pages x.memory.owners l) v.frame v.origin)
      ≡ cond ((seen_of store x).touched l) (cond (holds (shown x.state.cache) l) from_cache (from ((seen_of store x).origin l))) empty
  unfolding seen_of figure_seen is_empty empty_or newest_frame origin_of frame_number
  origin-named v f o = go (found_in n row) refl
    where
      n : ℕ
      n = live_in x.state

      row : ℕ → Bool
      row j = is_written (frame_in x j l)

      here : Bool
      here = collected_at x.state.registers.pages x.memory.owners l

      go : (place : Place) → found_in n row ≡ place
          → origin_of (cond (eqb v.frame archive_frame && not here) origin.Empty v.origin)
          ≡ cond (any n row || collected_in x l) (cond (holds (shown x.state.cache) l) from_cache (from (found_in n row))) empty
      go (in_frame j) e =
          let lim = limits x q.fits in
          let high = frame_below x.state.registers.frames x.state.registers.omf lim.fits.omf_below (n - 1 - j) in
          ap origin_of (ap (λ (t : Bool). cond (t && not here) origin.Empty v.origin) (ne_eqb v.frame archive_frame (λ z. omega (arith, high, z, f, ap (frame_number x.state) e, lim.good.frames_to))))
          ∙ (o ∙ sym (ap (λ (t : Bool). cond (t || collected_in x l) (cond (holds (shown x.state.cache) l) from_cache (from (found_in n row))) empty) (frame-some n row j e)))
      go in_archive e =
          ap (λ (t : Bool). origin_of (cond (t && not here) origin.Empty v.origin)) (eq-eqb v.frame archive_frame (f ∙ ap (frame_number x.state) e))
          ∙ (by here
          ∙ sym (ap₂ (λ (t u : Bool). cond (t || u) (cond (holds (shown x.state.cache) l) from_cache (from (found_in n row))) empty) (archive-none n row e) (collected-at x l b)))
        where
          by : (t : Bool) → origin_of (cond (not t) origin.Empty v.origin) ≡ cond t (cond (holds (shown x.state.cache) l) from_cache (from (found_in n row))) empty
          by true = o
          by false = refl

  -- It is a line of bytes.
  pub latest-line : IsLine (latest_in x l)
  unfolding latest_in
  latest-line = version_line (live_in x.state) (λ j. frame_in x j l) (archive_in x l) (λ j v e. q.version_line j l v e) (q.archive_line l)
