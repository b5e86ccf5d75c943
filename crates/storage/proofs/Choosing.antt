-- The page that a WRITE goes to, on well-formed storage. Assumes nothing.
use Rattle.std.specs.Prelude.{Option, Some, None}
use mathlib.Core.Path.{◌≡◌, refl, sym, ◌∙◌, ap, ap₂, subst}
use mathlib.Core.Logic.{◌≢◌, ◌⊎◌, inl, inr}
use mathlib.Core.Bool.{Bool, true, false, cond, not, ◌&&◌, false≢true}
use mathlib.Core.List.{List}
use Prim.Native.Nat.{ℕ, ◌+◌, ◌-◌, ◌*◌, ◌/◌, ◌%◌, ◌≤◌, ◌<◌, min}
use native.Mathlib.Omega.{arith}
use native.Mathlib.Decide.{dec_lt}
use borrow.Author.Tests.{lt-ltb, le-ltb, le-leb, lt-leb}
use lib.Dec.{ltb, leb}
use lib.ListN.{length, get_or, set}
use lib.Seq.{set-get_or}
use Rattle.rules.specs.Settings.{elements}
use Rattle.rules.specs.Seen.{needs}
use Rattle.rules.specs.Registers.{live_between}
use Rattle.rules.specs.Figure2.{is_written, figure_seen}
use Rattle.rules.specs.Promise.{seen_of}
use Rattle.rules.proofs.Count.{any_same}
use Rattle.frames.specs.Circle.{index_of, frame_at}
use Rattle.frames.proofs.Circle.{frame_below, index-frame, frame-index}
use Rattle.written.specs.Bits.{Written, written_of, Asks, effective}
use Rattle.written.specs.Steps.{with_written}
use Rattle.pages.specs.Table.{AsksTable, needed_at, place_at, places_of, entry_of, entry_at}
use Rattle.pages.specs.Ring.{nth_page, position_of, Paged, WellRing, owns, next_page}
use Rattle.pages.proofs.Needs.{needed-place}
use Rattle.pages.proofs.Owning.{own-means, own_is}
use Rattle.pages.proofs.Moves.{own-needed, one-page, next-free}
use Rattle.pages.proofs.Keeping.{set-ring, put-ring}
use Rattle.versions.specs.Steps.{owns_page, page_for, used_for}
use Rattle.versions.proofs.Finding.{place-entry}
use Rattle.storage.specs.Storage.{Storage, ring_at, live_in, written_in, frame_in, WellStore, store}
use Rattle.storage.specs.Steps.{current_frame, current_place, current_entry, page_taken, used_after}
use Rattle.storage.proofs.Rings.{start-same, used-same}
use Rattle.storage.proofs.Limits.{Limits, limits, lent-long}
use Rattle.storage.proofs.Counting.{written-effective, pages-counted}

-- What a search gave.
payload : Option ℕ → ℕ
payload (Some i) = i
payload None = 0

at_same : {i j : ℕ} → Some i ≡ Some j → i ≡ j
unfolding payload
at_same e = ap payload e

is_at : Option ℕ → Bool
is_at (Some i) = true
is_at None = false

at_some : {i : ℕ} → Some i ≡ None → ⊥
unfolding is_at
at_some e = false≢true (sym (ap is_at e))

-- A page chosen is one of the pages, on any storage.
pub page_below : (lines pages first used : ℕ) (table owners : List ℕ) (frame l p : ℕ) → first < pages → page_for lines pages first used table owners frame l ≡ Some p → p < pages
unfolding page_for next_page
page_below lines pages first used table owners frame l p h e = go (owns_page lines pages first used table owners frame l) refl (ltb used pages) e
  where
    entry : ℕ
    entry = get_or table (entry_at lines frame (l / 8)) 0

    go : (t : Bool) → owns_page lines pages first used table owners frame l ≡ t → (u : Bool) → cond t (Some entry) (cond u (Some (nth_page pages first used)) None) ≡ Some p → p < pages
    go true d u e = subst (λ (y : ℕ). y < pages) (at_same e) (own-means pages first used owners entry (place_at frame (l / 8)) d).0
    go false d true e = subst (λ (y : ℕ). y < pages) (at_same e) (frame_below pages first h used)
    go false d false e = absurd (at_some (sym e))

-- Document 01's 13 by the storage: whether the block's page in CMF is needed, and how many pages are.
module _ (x : Storage) (q : WellStore x) (l : ℕ) (b : l < x.state.registers.lines) where
  abbrev n : ℕ
  n = live_in x.state

  abbrev w : Written
  w = written_in x

  abbrev lim : Limits x
  lim = limits x q.fits

  -- CMF is the newest live frame
  pub cmf-index : index_of x.state.registers.frames x.state.registers.omf x.state.registers.cmf ≡ n - 1
  unfolding index_of live_between
  cmf-index = last ((x.state.registers.cmf + x.state.registers.frames - x.state.registers.omf) % x.state.registers.frames)
    where
      last : (m : ℕ) → m ≡ m + 1 - 1
      last m = omega arith

  pub cmf-frame : frame_at x.state.registers.frames x.state.registers.omf (n - 1) ≡ x.state.registers.cmf
  cmf-frame = ap (frame_at x.state.registers.frames x.state.registers.omf) (sym cmf-index) ∙ frame-index x.state.registers.frames x.state.registers.omf lim.fits.omf_below x.state.registers.cmf lim.fits.cmf_below

  block : l / 8 < x.state.registers.lines / 8
  block = omega (arith, lim.good.lines_by)

  abbrev pub place : ℕ
  place = current_place x l

  abbrev pub entry : ℕ
  entry = current_entry x l

  frame_few : current_frame x < x.state.registers.frames
  frame_few = frame_below x.state.registers.frames x.state.registers.omf lim.fits.omf_below (n - 1)

  pub place_inside : place < places_of w
  place_inside = omega (arith, frame_few, lim.good.lines_to)

  pub entry-is : entry_of w place ≡ entry
  entry-is = place-entry w (current_frame x) l lim.good.lines_to b

  -- the block is needed in CMF just if its place is
  pub current-needed : (seen_of store x).current (l / 8) ≡ needed_at w place
  unfolding seen_of figure_seen needs
  current-needed =
      any_same 8 (λ i. is_written (frame_in x 0 (l / 8 * 8 + i))) (λ i. effective w (n - 1) (l / 8 * 8 + i))
      (λ i c. sym (written-effective x 0 (l / 8 * 8 + i) lim.live_some (omega (arith, block, lim.good.lines_by))) ∙ ap (λ (k : ℕ). effective w k (l / 8 * 8 + i)) (none-off (n - 1)))
      ∙ sym (needed-place w (frame_at x.state.registers.frames x.state.registers.omf (n - 1)) (l / 8) lim.good.lines_to block ∙ ap (λ (k : ℕ). needs (effective w k) (l / 8)) (index-frame x.state.registers.frames x.state.registers.omf lim.fits.omf_below (n - 1) (omega (arith, lim.live_some, lim.live_most))))
    where
      none-off : (m : ℕ) → m - 0 ≡ m
      none-off m = omega arith

  asks : Asks w l (n - 1)
  asks = record { lent = q.bits.lent; line_below = b; index_below = omega (arith, lim.live_some, lim.live_most) }

  abbrev pub after-bit : Written
  after-bit = written_of x.state.registers.lines x.state.registers.frames x.state.registers.omf (with_written w x.state.registers.tag l (n - 1)) x.memory.history

  -- whether 13 is given
  abbrev none_free : Bool
  none_free = not ((seen_of store x).current (l / 8)) && leb x.state.registers.pages (seen_of store x).pages

  -- The page chosen is one of the pages, the place's own if that is needed, and no other needed place's; with it and so many in use the pages
  -- are a ring.
  pub record Chosen (p used : ℕ) : Type 0 where
    pub below : p < x.state.registers.pages
    pub page_is : p ≡ page_taken x l
    pub used_is : used ≡ used_after x l
    pub own : needed_at w place ≡ true → get_or x.memory.table entry 0 ≡ p
    pub apart : (y : ℕ) → y < places_of w → needed_at w y ≡ true → y ≢ place → get_or x.memory.table (entry_of w y) 0 ≢ p
    pub ring :
        WellRing after-bit x.state.registers.pages x.state.registers.first used (set x.memory.table entry p) (set x.memory.owners p place)
    pub free : none_free ≡ false
    pub fewer : ((seen_of store x).current (l / 8) ≡ true) ⊎ ((seen_of store x).pages < x.state.registers.pages)

  owners_long : x.state.registers.pages ≤ length x.memory.owners
  unfolding elements
  owners_long = omega (arith, (lent-long x q.long).owners)

  pub asks-table : AsksTable w x.memory.table
  unfolding elements
  asks-table = record { lent = q.bits.lent; lines_by = lim.good.lines_by; lines_from = lim.good.lines_from; table_long = (lent-long x q.long).table }

  -- the place's own
  module _ (e : needed_at w place ≡ true) where
    abbrev has : Paged x.state.registers.pages x.state.registers.first x.state.registers.used (λ y. get_or x.memory.table (entry_of w y) 0) (λ p. get_or x.memory.owners p 0) place
    has = q.pages.paged place place_inside e

    own_at : get_or x.memory.table (entry_of w place) 0 ≡ get_or x.memory.table entry 0
    own_at = ap (λ (y : ℕ). get_or x.memory.table y 0) entry-is

    pub own_back : get_or x.memory.owners (get_or x.memory.table entry 0) 0 ≡ place
    own_back = ap (λ (p : ℕ). get_or x.memory.owners p 0) (sym own_at) ∙ has.back

    pub chosen-own : Chosen (get_or x.memory.table entry 0) x.state.registers.used
    unfolding page_taken used_after
    chosen-own =
        record {
          below = omega (arith, has.page_below, own_at);
          page_is = sym (ap (λ (t : Bool). cond t (get_or x.memory.table entry 0) (nth_page x.state.registers.pages x.state.registers.first x.state.registers.used)) e);
          used_is = sym (ap (λ (t : Bool). cond t x.state.registers.used (x.state.registers.used + 1)) e);
          own = λ _. refl;
          apart = λ y h d ne same. ne (one-page q.pages y place h d place_inside e (same ∙ sym own_at));
          ring =
              subst (λ (t : List ℕ). WellRing after-bit x.state.registers.pages x.state.registers.first x.state.registers.used t (set x.memory.owners (get_or x.memory.table entry 0) place)) (sym (set-get_or x.memory.table entry 0))
              (subst (WellRing after-bit x.state.registers.pages x.state.registers.first x.state.registers.used x.memory.table)
              (sym (ap (set x.memory.owners (get_or x.memory.table entry 0)) (sym own_back) ∙ set-get_or x.memory.owners (get_or x.memory.table entry 0) 0))
              (set-ring w x.state.registers.tag l (n - 1) asks q.bits.tag_below q.bits.open_tag lim.good.lines_by x.state.registers.pages x.state.registers.first x.state.registers.used x.memory.table x.memory.owners e q.pages));
          free = ap (λ (t : Bool). not t && leb x.state.registers.pages (seen_of store x).pages) (current-needed ∙ e);
          fewer = inl (current-needed ∙ e);
        }

  -- the one behind the segment
  module _ (e : needed_at w place ≡ false) (room : x.state.registers.used < x.state.registers.pages) where
    abbrev next : ℕ
    next = nth_page x.state.registers.pages x.state.registers.first x.state.registers.used

    few : (seen_of store x).pages < x.state.registers.pages
    few = subst (λ (m : ℕ). m < x.state.registers.pages) (pages-counted x q) room

    chosen-next : Chosen next (x.state.registers.used + 1)
    unfolding page_taken used_after
    chosen-next =
        record {
          below = frame_below x.state.registers.pages x.state.registers.first q.pages.first_below x.state.registers.used;
          page_is = sym (ap (λ (t : Bool). cond t (get_or x.memory.table entry 0) next) e);
          used_is = sym (ap (λ (t : Bool). cond t x.state.registers.used (x.state.registers.used + 1)) e);
          own = λ d. absurd (false≢true (sym e ∙ d));
          apart = λ y h d ne. next-free q.pages y h d room;
          ring =
              subst (λ (i : ℕ). WellRing after-bit x.state.registers.pages x.state.registers.first (x.state.registers.used + 1) (set x.memory.table i next) (set x.memory.owners next place)) entry-is
              (put-ring w x.state.registers.tag l (n - 1) asks q.bits.tag_below q.bits.open_tag lim.good.lines_by n x.state.registers.pages x.state.registers.first x.state.registers.used
              x.memory.table x.memory.owners q.bits (omega (arith, lim.live_some)) asks-table.table_long owners_long room e q.pages);
          free = ap₂ (λ (s t : Bool). not s && t) (current-needed ∙ e) (lt-leb x.state.registers.pages (seen_of store x).pages few);
          fewer = inr few;
        }

  -- What the code asks of the ring, by the registers themselves.
  abbrev pub page-choice : Option ℕ
  page-choice = page_for x.state.registers.lines x.state.registers.pages (ring_at x.state.registers).first (ring_at x.state.registers).used x.memory.table x.memory.owners x.state.registers.cmf l

  abbrev pub used-choice : ℕ
  used-choice = used_for x.state.registers.lines x.state.registers.pages (ring_at x.state.registers).first (ring_at x.state.registers).used x.memory.table x.memory.owners x.state.registers.cmf l

  abbrev owning : Bool
  owning = owns x.state.registers.pages x.state.registers.first x.state.registers.used x.memory.owners (get_or x.memory.table entry 0) place

  -- the page is the place's own just if the place is needed
  owning-is : owning ≡ needed_at w place
  owning-is = go (needed_at w place) refl owning refl
    where
      back : get_or x.memory.table (entry_of w place) 0 ≡ get_or x.memory.table entry 0
      back = ap (λ (y : ℕ). get_or x.memory.table y 0) entry-is

      go : (t : Bool) → needed_at w place ≡ t → (o : Bool) → owning ≡ o → o ≡ t
      go true e true d = refl
      go true e false d =
          let h = has e in
          sym d
          ∙ own_is x.state.registers.pages x.state.registers.first x.state.registers.used x.memory.owners (get_or x.memory.table entry 0) place
          (omega (arith, h.page_below, own_at e)) (omega (arith, h.inside, ap (position_of x.state.registers.pages x.state.registers.first) (own_at e))) (own_back e)
      go false e true d =
          let m = own-means x.state.registers.pages x.state.registers.first x.state.registers.used x.memory.owners (get_or x.memory.table entry 0) place d in
          absurd (false≢true (sym e
          ∙ own-needed q.pages place (subst (λ (p : ℕ). p < x.state.registers.pages) (sym back) m.0)
          (subst (λ (p : ℕ). position_of x.state.registers.pages x.state.registers.first p < x.state.registers.used) (sym back) m.1)
          (ap (λ (p : ℕ). get_or x.memory.owners p 0) back ∙ m.2)))
      go false e false d = refl

  abbrev at : (first used : ℕ) (f : ℕ) → Option ℕ
  at first used f = page_for x.state.registers.lines x.state.registers.pages first used x.memory.table x.memory.owners f l

  abbrev many : (first used : ℕ) (f : ℕ) → ℕ
  many first used f = used_for x.state.registers.lines x.state.registers.pages first used x.memory.table x.memory.owners f l

  first-is : (ring_at x.state.registers).first ≡ x.state.registers.first
  first-is = start-same x.state.registers.first x.state.registers.pages q.pages.first_below

  same-used : (ring_at x.state.registers).used ≡ x.state.registers.used
  same-used = used-same x.state.registers.used x.state.registers.pages q.pages.used_few

  choice-is : page-choice ≡ cond (needed_at w place) (Some (get_or x.memory.table entry 0)) (next_page x.state.registers.pages x.state.registers.first x.state.registers.used)
  unfolding page_for
  choice-is =
      (λ i. at (first-is i) (same-used i) (sym cmf-frame i))
      ∙ ap (λ (t : Bool). cond t (Some (get_or x.memory.table entry 0)) (next_page x.state.registers.pages x.state.registers.first x.state.registers.used)) owning-is

  many_is : used-choice ≡ cond (needed_at w place) x.state.registers.used (min x.state.registers.pages (x.state.registers.used + 1))
  unfolding used_for
  many_is =
      (λ i. many (first-is i) (same-used i) (sym cmf-frame i))
      ∙ ap (λ (t : Bool). cond t x.state.registers.used (min x.state.registers.pages (x.state.registers.used + 1))) owning-is

  pub chosen : (p : ℕ) → page-choice ≡ Some p → Chosen p used-choice
  unfolding next_page
  chosen p e = go (needed_at w place) refl (dec_lt x.state.registers.used x.state.registers.pages) (sym choice-is ∙ e) many_is
    where
      next : Bool → Option ℕ
      next u = cond u (Some (nth_page x.state.registers.pages x.state.registers.first x.state.registers.used)) None

      go : (t : Bool) → needed_at w place ≡ t → Dec (x.state.registers.used < x.state.registers.pages)
          → cond t (Some (get_or x.memory.table entry 0)) (next (ltb x.state.registers.used x.state.registers.pages)) ≡ Some p
          → used-choice ≡ cond t x.state.registers.used (min x.state.registers.pages (x.state.registers.used + 1)) → Chosen p used-choice
      go true d r f m = subst (λ (u : ℕ). Chosen p u) (sym m) (subst (λ (y : ℕ). Chosen y x.state.registers.used) (at_same f) (chosen-own d))
      go false d (yes room) f m =
          let more : used-choice ≡ x.state.registers.used + 1 = m ∙ omega arith in
          subst (λ (u : ℕ). Chosen p u) (sym more)
          (subst (λ (y : ℕ). Chosen y (x.state.registers.used + 1)) (at_same (sym (ap next (lt-ltb x.state.registers.used x.state.registers.pages room)) ∙ f)) (chosen-next d room))
      go false d (no full) f m = absurd (at_some (sym f ∙ ap next (le-ltb x.state.registers.used x.state.registers.pages (omega arith))))

  pub none-chosen : page-choice ≡ None → none_free ≡ true
  unfolding next_page
  none-chosen e = go (needed_at w place) refl (dec_lt x.state.registers.used x.state.registers.pages) (sym choice-is ∙ e)
    where
      next : Bool → Option ℕ
      next u = cond u (Some (nth_page x.state.registers.pages x.state.registers.first x.state.registers.used)) None

      go : (t : Bool) → needed_at w place ≡ t → Dec (x.state.registers.used < x.state.registers.pages)
          → cond t (Some (get_or x.memory.table entry 0)) (next (ltb x.state.registers.used x.state.registers.pages)) ≡ None → none_free ≡ true
      go true d r f = absurd (at_some f)
      go false d (yes room) f = absurd (at_some (sym (ap next (lt-ltb x.state.registers.used x.state.registers.pages room)) ∙ f))
      go false d (no full) f =
          ap₂ (λ (s t : Bool). not s && t) (current-needed ∙ d) (le-leb x.state.registers.pages (seen_of store x).pages (omega (arith, pages-counted x q)))
