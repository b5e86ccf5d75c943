-- Pages folded into the archive one after the other, and their bits cleared, in the form in which the loops have it. Assumes nothing.
use mathlib.Core.Path.{◌≡◌, sym, ◌∙◌, ap, subst}
use mathlib.Core.List.{List}
use Prim.Native.Nat.{ℕ, ◌+◌, ◌*◌, ◌/◌, ◌%◌, ◌≤◌, ◌<◌}
use native.Mathlib.Numerals.{add-one}
use native.Mathlib.Decide.{ℕ_discrete}
use native.Mathlib.Omega.{arith}
use lib.ListN.{length, get_or}
use Rattle.frames.specs.Circle.{frame_at}
use Rattle.frames.proofs.Circle.{frame_below}
use Rattle.written.specs.Bits.{Written, place_of}
use Rattle.written.proofs.Areas.{place-below, area_below}
use Rattle.pages.specs.Ring.{nth_page, owner_index, index_at, Leads}
use Rattle.pages.proofs.Halving.{index-high}
use Rattle.versions.proofs.Flagged.{Kept, pages-flagged}
use Rattle.versions.specs.Steps.{folded_page, folded_pages, flagged_page, flagged_pages, AsksCopy, AsksFold, AsksGone}

-- ---- the pages of the ring
module _ (w : Written) (pages first : ℕ) (owners : List ℕ) where
  pub record NotedPages (n : ℕ) (now : List ℕ) : Type 0 where
    pub kept : Kept pages w.lines owners now
    pub same : now ≡ flagged_pages w pages first owners n

  -- what is read of a page is its owner still
  pub noted-owner : (n : ℕ) (now : List ℕ) → NotedPages n now → first < pages → (page : ℕ) → page ≡ frame_at pages first n → get_or now page 0 ≡ get_or owners page 0
  noted-owner n now h b page at = h.kept.below page (omega (arith, at, frame_below pages first b n))

  pub noted-pages-next : w.lines % 8 ≡ 0 → pages + w.lines ≤ length owners → (n : ℕ) (now : List ℕ) → NotedPages n now → (page owner index : ℕ) → page ≡ frame_at pages first n
      → owner ≡ get_or owners page 0 → index ≡ owner_index w.frames w.omf owner → (after : List ℕ) → after ≡ flagged_page w pages index (owner % 512) now → NotedPages (n + 1) after
  unfolding flagged_pages
  noted-pages-next by long n now h page owner index at own is after e =
      let here : owner ≡ get_or owners (nth_page pages first n) 0 = own ∙ ap (λ (q : ℕ). get_or owners q 0) at in
      let same : after ≡ flagged_pages w pages first owners (n + 1) =
      e
      ∙ ((λ j. flagged_page w pages ((is ∙ ap (owner_index w.frames w.omf) here) j) (here j % 512) (h.same j))
      ∙ ap (flagged_pages w pages first owners) (sym (add-one n)))
      in
      record { kept = subst (Kept pages w.lines owners) (sym same) (pages-flagged w pages first owners (n + 1) by long).kept; same = same }

module _ (w : Written) (pages first used : ℕ) (pool owners archive : List ℕ) (k : ℕ) where
  abbrev indexes : ℕ → ℕ
  indexes = index_at w.frames w.omf pages first owners

  pub record Pages (n : ℕ) (now : List ℕ) : Type 0 where
    pub few : n ≤ used
    pub long : length now ≡ length archive
    pub low : (i : ℕ) → i < n → indexes i < k
    pub same : now ≡ folded_pages w pages first pool owners n archive

  module _ (n : ℕ) (now : List ℕ) (h : Pages n now) (b : n < used) (page owner index : ℕ) (at : page ≡ frame_at pages first n) (own : owner ≡ get_or owners page 0)
      (is : index ≡ owner_index w.frames w.omf owner) where
    owner-is : owner ≡ get_or owners (nth_page pages first n) 0
    owner-is = own ∙ ap (λ (q : ℕ). get_or owners q 0) at

    index_is : index ≡ indexes n
    unfolding index_at
    index_is = is ∙ ap (owner_index w.frames w.omf) owner-is

    pub pages-ask : (long noted : ℕ) → AsksFold w pages first used (length archive) long (length owners) → index < w.frames → noted ≡ length owners
        → AsksCopy w pages page index (length now) long noted
    pages-ask long noted ask l e =
        record {
          lent = ask.lent;
          lines_by = ask.lines_by;
          page_below = omega (arith, at, frame_below pages first ask.ring.first_below n);
          pages_few = ask.ring.pages_few;
          index_below = l;
          archive_long = omega (arith, ask.archive_long, h.long);
          pool_long = ask.pool_long;
          owners_long = omega (arith, ask.owners_long, e);
        }

    pub pages-stop : k ≤ index → Leads used indexes k n
    pages-stop l = record { few = h.few; low = h.low; stop = λ c. omega (arith, index_is, l) }

    pub pages-next : index < k → (after : List ℕ) → length after ≡ length now → after ≡ folded_page w pool page index (owner % 512) now → Pages (n + 1) after
    unfolding folded_pages
    pages-next l after long e =
        record {
          few = omega arith;
          long = long ∙ h.long;
          low = λ i c. low i c (ℕ_discrete i n);
          same =
              e
              ∙ ((λ j. folded_page w pool (at j) ((is ∙ ap (owner_index w.frames w.omf) owner-is) j) (owner-is j % 512) (h.same j))
              ∙ ap (λ (m : ℕ). folded_pages w pages first pool owners m archive) (sym (add-one n)));
        }
      where
        low : (i : ℕ) → i < n + 1 → Dec (i ≡ n) → indexes i < k
        low i c (yes z) = omega (arith, ap indexes z, index_is)
        low i c (no z) = h.low i (omega arith)

-- an index below F is that of a frame
pub index-frame-few : (frames omf owner k : ℕ) → owner_index frames omf owner < k → k ≤ frames → owner / 512 < frames
index-frame-few frames omf owner k b few = go (native.Mathlib.Decide.dec_lt (owner / 512) frames)
  where
    go : Dec (owner / 512 < frames) → owner / 512 < frames
    go (yes h) = h
    go (no h) = absurd (omega (arith, index-high frames omf owner (omega arith)))

-- ---- their bits
module _ (lines pages first : ℕ) (owners : List ℕ) (gone : ℕ) (groups : List ℕ) where
  module _ (frames omf used : ℕ) (ask : AsksGone lines frames omf pages first used owners gone (length groups)) (n : ℕ) (now : List ℕ) (long : length now ≡ length groups) (b : n < gone) (page : ℕ) (at : page ≡ frame_at pages first n) where
    frame_few : get_or owners page 0 / 512 < frames
    unfolding index_at
    frame_few = index-frame-few frames omf (get_or owners page 0) frames (omega (arith, ap (λ (q : ℕ). owner_index frames omf (get_or owners q 0)) at, ask.inside n b)) (omega arith)

    pub clearing-asks : (lines ≤ 4096) × (get_or owners page 0 / 512 ≤ 4096) × (get_or owners page 0 % 512 < lines / 8 → place_of lines (get_or owners page 0 / 512 / 16) (get_or owners page 0 % 512 * 8) + 8 ≤ length now)
    clearing-asks = (
      ask.lines_few,
      omega (arith, frame_few, ask.ring.frames_few),
      λ c. omega (arith, long, ask.groups_long, place-below lines (frames / 16) (get_or owners page 0 / 512 / 16) (get_or owners page 0 % 512 * 8 + 7) (area_below frames (get_or owners page 0 / 512) ask.frames_by frame_few) (omega arith)),
    )
