-- What clearing the bits of the ring's first pages leaves in the groups: on any storage its length, what lies past the groups, tags and
-- other bits; on a ring just what an advance may leave. Assumes nothing.
use mathlib.Core.Path.{◌≡◌, refl, sym, ◌∙◌, ap}
use mathlib.Core.Logic.{◌≢◌}
use mathlib.Core.Bool.{Bool, true, false, cond, false≢true}
use mathlib.Core.List.{List}
use Prim.Native.Nat.{ℕ, zero, suc, ◌+◌, ◌*◌, ◌/◌, ◌%◌, ◌≤◌, ◌<◌}
use native.Mathlib.Decide.{ℕ_discrete, dec_lt}
use native.Mathlib.Omega.{arith}
use borrow.Author.Tests.{lt-ltb, le-ltb}
use lib.Dec.{ltb}
use lib.ListN.{length, get_or, drop}
use Rattle.frames.specs.Circle.{frame_at}
use Rattle.numbers.specs.Digits.{bit}
use Rattle.frames.proofs.Circle.{index-frame}
use Rattle.written.specs.Bits.{Written, AsksWritten, place_of, tag_of, effective}
use Rattle.written.specs.Steps.{cleared_block}
use Rattle.written.proofs.Areas.{place-below, area_below}
use Rattle.written.proofs.Unsetting.{block-cleared}
use Rattle.written.proofs.Advancing.{group_of, Collected}
use Rattle.pages.specs.Table.{place_at}
use Rattle.pages.specs.Ring.{nth_page, index_at, Splits, WellRing}
use Rattle.pages.proofs.Keeping.{owner-index}
use Rattle.versions.specs.Steps.{cleared_page, cleared_pages}
use Rattle.versions.proofs.Folding.{index-frame-few}
use Rattle.versions.proofs.Walking.{has_all, has-place}

-- One page.
record PageCleared (w : Written) (owner : ℕ) (groups after : List ℕ) : Type 0 where
  long : length after ≡ length groups
  past : drop (w.frames / 16 * w.lines) after ≡ drop (w.frames / 16 * w.lines) groups
  tags : (at : ℕ) → tag_of (get_or after at 0) ≡ tag_of (get_or groups at 0)
  old : (at q : ℕ) → q < 16 → bit (get_or after at 0) q ≡ true → bit (get_or groups at 0) q ≡ true
  other : (f m : ℕ) → f ≢ owner / 512 → m < w.lines → bit (group_of w after f m) (f % 16) ≡ bit (group_of w groups f m) (f % 16)
  own : (m : ℕ) → m < w.lines → m / 8 ≡ owner % 512 → bit (group_of w after (owner / 512) m) (owner / 512 % 16) ≡ false

module _ (w : Written) (by : w.lines % 8 ≡ 0) (frames_by : w.frames % 16 ≡ 0) where
  page-cleared : (owner : ℕ) (groups : List ℕ) → owner / 512 < w.frames → w.frames / 16 * w.lines ≤ length groups → PageCleared w owner groups (cleared_page w.lines owner groups)
  unfolding cleared_page
  page-cleared owner groups few room = go (dec_lt (owner % 512) (w.lines / 8))
    where
      go : Dec (owner % 512 < w.lines / 8) → PageCleared w owner groups (cond (ltb (owner % 512) (w.lines / 8)) (cleared_block w.lines (owner / 512) (owner % 512) groups) groups)
      go (yes b) =
          let same : cond (ltb (owner % 512) (w.lines / 8)) (cleared_block w.lines (owner / 512) (owner % 512) groups) groups ≡ cleared_block w.lines (owner / 512) (owner % 512) groups =
          ap (λ (t : Bool). cond t (cleared_block w.lines (owner / 512) (owner % 512) groups) groups) (lt-ltb (owner % 512) (w.lines / 8) b)
          in
          let top = place-below w.lines (w.frames / 16) (owner / 512 / 16) (owner % 512 * 8 + 7) (area_below w.frames (owner / 512) frames_by few) (omega arith) in
          let h = block-cleared w.lines (owner / 512) (owner % 512) groups (omega arith) (omega (arith, top)) in
          record {
            long = ap length same ∙ h.long;
            past = ap (drop (w.frames / 16 * w.lines)) same ∙ h.past (w.frames / 16 * w.lines) (omega (arith, top));
            tags = λ at. ap (λ (g : List ℕ). tag_of (get_or g at 0)) same ∙ h.tags at;
            old = λ at q c e. h.old at q c (sym (ap (λ (g : List ℕ). bit (get_or g at 0) q) same) ∙ e);
            other = λ f m d c. ap (λ (g : List ℕ). bit (group_of w g f m) (f % 16)) same ∙ h.other f m d c;
            own = λ m c e. ap (λ (g : List ℕ). bit (group_of w g (owner / 512) m) (owner / 512 % 16)) same ∙ h.own m e;
          }
      go (no b) =
          let same : cond (ltb (owner % 512) (w.lines / 8)) (cleared_block w.lines (owner / 512) (owner % 512) groups) groups ≡ groups =
          ap (λ (t : Bool). cond t (cleared_block w.lines (owner / 512) (owner % 512) groups) groups) (le-ltb (owner % 512) (w.lines / 8) (omega arith))
          in
          record {
            long = ap length same;
            past = ap (drop (w.frames / 16 * w.lines)) same;
            tags = λ at. ap (λ (g : List ℕ). tag_of (get_or g at 0)) same;
            old = λ at q c e. sym (ap (λ (g : List ℕ). bit (get_or g at 0) q) same) ∙ e;
            other = λ f m d c. ap (λ (g : List ℕ). bit (group_of w g f m) (f % 16)) same;
            own = λ m c e. absurd (omega arith);
          }

  -- The ring's first pages.
  module _ (pages first : ℕ) (owners : List ℕ) where
    abbrev owner : ℕ → ℕ
    owner i = get_or owners (nth_page pages first i) 0

    pub record PagesCleared (n : ℕ) (groups after : List ℕ) : Type 0 where
      pub long : length after ≡ length groups
      pub past : drop (w.frames / 16 * w.lines) after ≡ drop (w.frames / 16 * w.lines) groups
      pub tags : (at : ℕ) → tag_of (get_or after at 0) ≡ tag_of (get_or groups at 0)
      pub old : (at q : ℕ) → q < 16 → bit (get_or after at 0) q ≡ true → bit (get_or groups at 0) q ≡ true
      pub other : (f m : ℕ) → ((i : ℕ) → i < n → f ≢ owner i / 512) → m < w.lines → bit (group_of w after f m) (f % 16) ≡ bit (group_of w groups f m) (f % 16)
      pub own : (i m : ℕ) → i < n → m < w.lines → m / 8 ≡ owner i % 512 → bit (group_of w after (owner i / 512) m) (owner i / 512 % 16) ≡ false

    pub pages-cleared : (n : ℕ) (groups : List ℕ) → ((i : ℕ) → i < n → owner i / 512 < w.frames) → w.frames / 16 * w.lines ≤ length groups
        → PagesCleared n groups (cleared_pages w.lines pages first owners n groups)
    unfolding cleared_pages
    pages-cleared zero groups few room =
        record { long = refl; past = refl; tags = λ at. refl; old = λ at q b e. e; other = λ f m d b. refl; own = λ i m b c e. absurd (omega arith) }
    pages-cleared (suc n) groups few room =
        next (cleared_pages w.lines pages first owners n groups) (pages-cleared n groups (λ i b. few i (omega arith)) room)
      where
        next : (now : List ℕ) → PagesCleared n groups now → PagesCleared (suc n) groups (cleared_page w.lines (owner n) now)
        next now h =
            let s = page-cleared (owner n) now (few n (omega arith)) (omega (arith, h.long)) in
            record {
              long = s.long ∙ h.long;
              past = s.past ∙ h.past;
              tags = λ at. s.tags at ∙ h.tags at;
              old = λ at q b e. h.old at q b (s.old at q b e);
              other = λ f m d b. s.other f m (d n (omega arith)) b ∙ h.other f m (λ i c. d i (omega arith)) b;
              own = λ i m b c e.
                  elim (ℕ_discrete i n) [
                    | yes z ↦
                        ap (λ (x : ℕ). bit (group_of w (cleared_page w.lines (owner n) now) (owner x / 512) m) (owner x / 512 % 16)) z
                        ∙ s.own m c (e ∙ ap (λ (x : ℕ). owner x % 512) z)
                    | no z ↦ stays i m (h.own i m (omega arith) c e) (bit (group_of w (cleared_page w.lines (owner n) now) (owner i / 512) m) (owner i / 512 % 16)) refl (s.old (place_of w.lines (owner i / 512 / 16) m) (owner i / 512 % 16) (omega arith))
                  ];
            }
          where
            stays : (i m : ℕ) → bit (group_of w now (owner i / 512) m) (owner i / 512 % 16) ≡ false
                → (t : Bool) → bit (group_of w (cleared_page w.lines (owner n) now) (owner i / 512) m) (owner i / 512 % 16) ≡ t
                → (bit (group_of w (cleared_page w.lines (owner n) now) (owner i / 512) m) (owner i / 512 % 16) ≡ true → bit (group_of w now (owner i / 512) m) (owner i / 512 % 16) ≡ true)
                → t ≡ false
            stays i m e true d back = absurd (false≢true (sym e ∙ back d))
            stays i m e false d back = refl

-- On a ring.
module _ (w : Written) (lent : AsksWritten w) (pages first used gone k : ℕ) (below : k ≤ w.frames) (table owners : List ℕ) (r : WellRing w pages first used table owners)
    (parts : Splits used (index_at w.frames w.omf pages first owners) k gone) (by : w.lines % 8 ≡ 0) where
  abbrev after : List ℕ
  after = cleared_pages w.lines pages first owners gone w.groups

  frame_few : (i : ℕ) → i < gone → get_or owners (nth_page pages first i) 0 / 512 < w.frames
  unfolding index_at
  frame_few i b = index-frame-few w.frames w.omf (get_or owners (nth_page pages first i) 0) k (parts.low i b) below

  abbrev bits : PagesCleared w by lent.frames_by pages first owners gone w.groups after
  bits = pages-cleared w by lent.frames_by pages first owners gone w.groups frame_few lent.groups_long

  -- a kept frame owns no collected page
  kept-apart : (j : ℕ) → k ≤ j → j < w.frames → (i : ℕ) → i < gone → frame_at w.frames w.omf j ≢ get_or owners (nth_page pages first i) 0 / 512
  unfolding index_at
  kept-apart j a b i c e =
      omega (
        arith,
        parts.low i c,
        owner-index w.frames w.omf (get_or owners (nth_page pages first i) 0) (frame_few i c),
        ap (Rattle.frames.specs.Circle.index_of w.frames w.omf) e,
        index-frame w.frames w.omf lent.omf_below j b,
      )

  bit-stale : (i m : ℕ) → i < k → m < w.lines
      → bit (group_of w after (frame_at w.frames w.omf i) m) (frame_at w.frames w.omf i % 16) ≡ true → effective w i m ≡ false
  bit-stale i m b c e = go (effective w i m) refl
    where
      go : (t : Bool) → effective w i m ≡ t → t ≡ false
      go false d = refl
      go true d =
          let h = has_all w lent pages first used gone k below table owners r parts by m c i b d in
          let own : get_or owners (nth_page pages first h.0) 0 ≡ place_at (frame_at w.frames w.omf i) (m / 8) =
          has-place w lent pages first used gone k below table owners r parts by m c h.0 (omega (arith, h.1, parts.few)) h.2
          ∙ ap (λ (z : ℕ). place_at (frame_at w.frames w.omf z) (m / 8)) h.3
          in
          let few : w.lines ≤ 4096 = lent.lines_few in
          let f : get_or owners (nth_page pages first h.0) 0 / 512 ≡ frame_at w.frames w.omf i = omega arith in
          absurd
          (false≢true
          (sym (bits.own h.0 m h.1 c (omega arith)) ∙ (ap (λ (z : ℕ). bit (group_of w after z m) (z % 16)) f ∙ e)))

  pub pages-collected : Collected w k after
  pages-collected =
      record {
        long = bits.long;
        tags = bits.tags;
        old = bits.old;
        keeps = λ i m a b c. bits.other (frame_at w.frames w.omf i) m (kept-apart i a b) c;
        stale = bit-stale;
      }
