-- What a write, a rollback, an advance and a reset keep of the ring over the written bits. Assumes nothing.
use mathlib.Core.Path.{◌≡◌, refl, sym, ◌∙◌, ap, ap₂}
use mathlib.Core.Bool.{Bool, true, false, ◌&&◌, ◌||◌, false≢true, or-true}
use mathlib.Core.Logic.{◌⊎◌, inl, inr, ◌≢◌}
use mathlib.Core.List.{List}
use Prim.Native.Nat.{ℕ, ◌+◌, ◌-◌, ◌*◌, ◌/◌, ◌%◌, ◌≤◌, ◌<◌}
use native.Mathlib.Nat.{mul-le-mul, le_refl, suc-mul}
use native.Mathlib.Decide.{ℕ_discrete, dec_lt}
use native.Mathlib.Omega.{arith}
use borrow.Author.Tests.{lt-ltb, eq-eqb, ltb-true, eqb-true}
use lib.Arith.{digits_div, digits_mod}
use lib.Dec.{eqb}
use lib.ListN.{length, get_or, set}
use Rattle.rules.proofs.Tests.{both_true}
use Rattle.frames.specs.Circle.{index_of, frame_at}
use Rattle.frames.proofs.Circle.{frame_below, index_below, index-frame, frame-index}
use Rattle.written.specs.Bits.{Written, AsksWritten, Asks, effective}
use Rattle.written.specs.Steps.{RolledBack}
use Rattle.written.specs.Well.{WellBits}
use Rattle.written.proofs.Setting.{set-effective, after}
use Rattle.written.proofs.Rolling.{rolled, rolled-effective}
use Rattle.written.proofs.Advancing.{Collected, advanced, advanced-effective, index_kept, frame-kept}
use Rattle.pages.specs.Table.{blocks_of, places_of, place_at, entries_of, entry_of, needed_at}
use Rattle.pages.specs.Ring.{nth_page, Leading, Splits, owner_index, index_at, WellRing}
use Rattle.pages.proofs.Needs.{needed-block, needed-line, line-needed}
use Rattle.pages.proofs.Halving.{index-own}
use Rattle.pages.proofs.Moves.{claimed-ring, same-ring, kept-ring, passed-ring, empty-ring}

either_true : (a b : Bool) → (a || b) ≡ true → (a ≡ true) ⊎ (b ≡ true)
either_true true b e = inl refl
either_true false b e = inr e

-- the index that the code computes is that of the frame
pub owner-index : (n omf x : ℕ) → x / 512 < n → owner_index n omf x ≡ index_of n omf (x / 512)
owner-index n omf x b = sym (index-own n omf x b)

-- ROLLBACK: the places needed afterwards are those needed before with an index below the target.
module _ (w : Written) (tag kept live : ℕ) (q : WellBits w tag live) (groups history : List ℕ) (next : ℕ) (r : RolledBack w tag kept groups history next) where
  abbrev back : Written
  back = rolled w tag kept live q groups history next r

  index_is : (x : ℕ) → x < places_of w → owner_index w.frames w.omf x ≡ index_of w.frames w.omf (x / 512)
  index_is x b = owner-index w.frames w.omf x (omega arith)

  rolled-only : (x : ℕ) → x < places_of w → needed_at back x ≡ true → (needed_at w x ≡ true) × (owner_index w.frames w.omf x < kept)
  rolled-only x b e =
      let h = needed-line back x e in
      let k = index_below w.frames w.omf q.lent.omf_below (x / 512) in
      let t = both_true _ _ (sym (rolled-effective w tag kept live q groups history next r (index_of w.frames w.omf (x / 512)) h.0 k h.1) ∙ h.3) in
      (line-needed w x h.0 (needed-block back x e) h.2 t.0, omega (arith, index_is x b, ltb-true _ kept t.1))

  rolled-keeps : (x : ℕ) → x < places_of w → needed_at w x ≡ true → owner_index w.frames w.omf x < kept → needed_at back x ≡ true
  rolled-keeps x b e l =
      let h = needed-line w x e in
      let k = index_below w.frames w.omf q.lent.omf_below (x / 512) in
      line-needed back x h.0 (needed-block w x e) h.2
      (rolled-effective w tag kept live q groups history next r (index_of w.frames w.omf (x / 512)) h.0 k h.1
      ∙ ap₂ (λ (s t : Bool). s && t) h.3 (lt-ltb (index_of w.frames w.omf (x / 512)) kept (omega (arith, index_is x b))))

  -- by what the search by halving found
  pub rolled-ring : (pages first used left : ℕ) (table owners : List ℕ) → WellRing w pages first used table owners
      → Leading used (index_at w.frames w.omf pages first owners) kept left → WellRing back pages first left table owners
  unfolding index_at
  rolled-ring pages first used left table owners o found =
      kept-ring (needed_at w) (needed_at back) (places_of w) pages first used left kept _ _ _ o (found.exact o.rising) rolled-only rolled-keeps

-- ADVANCE: those needed before with an index from k on, which goes down by k.
module _ (w : Written) (lent : AsksWritten w) (k : ℕ) (below : k < w.frames) (groups : List ℕ) (c : Collected w k groups) where
  abbrev on : Written
  on = advanced w lent k below groups c

  abbrev start : ℕ
  start = frame_at w.frames w.omf k

  start-below : start < w.frames
  start-below = frame_below w.frames w.omf lent.omf_below k

  -- a frame's index from the new OMF
  index-down : (f : ℕ) → f < w.frames → k ≤ index_of w.frames w.omf f → k + index_of w.frames start f ≡ index_of w.frames w.omf f
  index-down f b h =
      let i : ℕ = index_of w.frames w.omf f in
      let few = index_below w.frames w.omf lent.omf_below f in
      let whole : k + (i - k) ≡ i = omega arith in
      let here : frame_at w.frames start (i - k) ≡ f =
      frame-kept w.frames w.omf k lent.omf_below (i - k) ∙ (ap (frame_at w.frames w.omf) whole ∙ frame-index w.frames w.omf lent.omf_below f b)
      in
      let same : index_of w.frames start f ≡ i - k =
      ap (index_of w.frames start) (sym here) ∙ index-frame w.frames start start-below (i - k) (omega arith)
      in
      omega arith

  index-up : (f : ℕ) → f < w.frames → k + index_of w.frames start f < w.frames → index_of w.frames w.omf f ≡ k + index_of w.frames start f
  index-up f b h =
      ap (index_of w.frames w.omf) (sym (frame-index w.frames start start-below f b))
      ∙ index_kept w.frames w.omf k lent.omf_below (index_of w.frames start f) h

  before-is : (x : ℕ) → x < places_of w → owner_index w.frames w.omf x ≡ index_of w.frames w.omf (x / 512)
  before-is x b = owner-index w.frames w.omf x (omega arith)

  after_is : (x : ℕ) → x < places_of w → owner_index w.frames start x ≡ index_of w.frames start (x / 512)
  after_is x b = owner-index w.frames start x (omega arith)

  advanced-only : (x : ℕ) → x < places_of w → needed_at on x ≡ true → (needed_at w x ≡ true) × (k ≤ owner_index w.frames w.omf x)
  advanced-only x b e =
      let h = needed-line on x e in
      let j : ℕ = index_of w.frames start (x / 512) in
      let t = both_true _ _ (sym (advanced-effective w lent k below groups c j h.0 (index_below w.frames start start-below (x / 512)) h.1) ∙ h.3) in
      let same = index-up (x / 512) (omega arith) (ltb-true (k + j) w.frames t.0) in
      (line-needed w x h.0 (needed-block on x e) h.2 (ap (λ (z : ℕ). effective w z h.0) same ∙ t.1), omega (arith, before-is x b))

  advanced-keeps : (x : ℕ) → x < places_of w → needed_at w x ≡ true → k ≤ owner_index w.frames w.omf x → needed_at on x ≡ true
  advanced-keeps x b e l =
      let h = needed-line w x e in
      let j : ℕ = index_of w.frames start (x / 512) in
      let same : k + j ≡ index_of w.frames w.omf (x / 512) = index-down (x / 512) (omega arith) (omega (arith, before-is x b)) in
      line-needed on x h.0 (needed-block w x e) h.2
      (advanced-effective w lent k below groups c j h.0 (index_below w.frames start start-below (x / 512)) h.1
      ∙ ap₂ (λ (s t : Bool). s && t) (lt-ltb (k + j) w.frames (omega (arith, index_below w.frames w.omf lent.omf_below (x / 512)))) (ap (λ (z : ℕ). effective w z h.0) same ∙ h.3))

  advanced-down : (x : ℕ) → x < places_of w → needed_at w x ≡ true → k ≤ owner_index w.frames w.omf x
      → k + owner_index w.frames start x ≡ owner_index w.frames w.omf x
  advanced-down x b e l =
      omega (arith, before-is x b, after_is x b, index-down (x / 512) (omega arith) (omega (arith, before-is x b)))

  pub advanced-ring : (pages first used gone : ℕ) (table owners : List ℕ) → WellRing w pages first used table owners
      → Splits used (index_at w.frames w.omf pages first owners) k gone → WellRing on pages (nth_page pages first gone) (used - gone) table owners
  unfolding index_at
  advanced-ring pages first used gone table owners o parts =
      passed-ring (needed_at w) (needed_at on) (places_of w) pages first used gone k _ _ _ _ o parts advanced-only advanced-keeps advanced-down

-- WRITE to a line in the newest live frame.
module _ (w : Written) (tag l i : ℕ) (a : Asks w l i) (small : tag < 256) (open_tag : get_or w.history tag 0 ≡ 65535) (by : w.lines % 8 ≡ 0) where
  abbrev then : Written
  then = after w tag l i a small open_tag

  abbrev frame : ℕ
  frame = frame_at w.frames w.omf i

  abbrev place : ℕ
  place = place_at frame (l / 8)

  frame_few : frame < w.frames
  frame_few = frame_below w.frames w.omf a.lent.omf_below i

  block_few : l / 8 < blocks_of w
  block_few = omega (arith, a.line_below)

  place-its-frame : place / 512 ≡ frame
  place-its-frame = omega (arith, block_few, a.lent.lines_few)

  place-its-block : place % 512 ≡ l / 8
  place-its-block = omega (arith, block_few, a.lent.lines_few)

  place-below : place < places_of w
  place-below = omega (arith, frame_few, block_few, a.lent.lines_few)

  set-grows : (x : ℕ) → x < places_of w → needed_at w x ≡ true → needed_at then x ≡ true
  set-grows x b e =
      let h = needed-line w x e in
      line-needed then x h.0 (needed-block w x e) h.2
      (set-effective w tag l i a small open_tag (index_of w.frames w.omf (x / 512)) h.0 (index_below w.frames w.omf a.lent.omf_below (x / 512)) h.1
      ∙ ap (λ (t : Bool). t || (eqb (index_of w.frames w.omf (x / 512)) i && eqb h.0 l)) h.3)

  set-only : (x : ℕ) → x < places_of w → x ≢ place → needed_at then x ≡ true → needed_at w x ≡ true
  set-only x b d e =
      let h = needed-line then x e in
      go h.0 h.2
      (either_true _ _ (sym (set-effective w tag l i a small open_tag (index_of w.frames w.omf (x / 512)) h.0 (index_below w.frames w.omf a.lent.omf_below (x / 512)) h.1) ∙ h.3))
    where
      go : (m : ℕ) → m / 8 ≡ x % 512 → (effective w (index_of w.frames w.omf (x / 512)) m ≡ true) ⊎ ((eqb (index_of w.frames w.omf (x / 512)) i && eqb m l) ≡ true)
          → needed_at w x ≡ true
      go m c (inl s) = line-needed w x m (needed-block then x e) c s
      go m c (inr s) =
          let t = both_true _ _ s in
          let f : x / 512 ≡ frame =
          sym (frame-index w.frames w.omf a.lent.omf_below (x / 512) (omega arith)) ∙ ap (frame_at w.frames w.omf) (eqb-true _ i t.0)
          in
          absurd (d (omega (arith, f, c, eqb-true m l t.1)))

  set_then : needed_at then place ≡ true
  set_then =
      let is : index_of w.frames w.omf (place / 512) ≡ i = ap (index_of w.frames w.omf) place-its-frame ∙ index-frame w.frames w.omf a.lent.omf_below i a.index_below in
      line-needed then place l (omega (arith, place-its-block, block_few)) (sym place-its-block)
      (set-effective w tag l i a small open_tag (index_of w.frames w.omf (place / 512)) l (index_below w.frames w.omf a.lent.omf_below (place / 512)) a.line_below
      ∙ (ap (λ (t : Bool). effective w (index_of w.frames w.omf (place / 512)) l || t) (ap₂ (λ (s t : Bool). s && t) (eq-eqb _ i is) (eq-eqb l l refl)) ∙ or-true (effective w (index_of w.frames w.omf (place / 512)) l)))

  -- a place that has its page keeps it,
  pub set-ring : (pages first used : ℕ) (table owners : List ℕ) → needed_at w place ≡ true → WellRing w pages first used table owners → WellRing then pages first used table owners
  set-ring pages first used table owners own r =
      same-ring (needed_at w) (needed_at then) (places_of w) pages first used _ _ _ r (λ x b e. go x b e (ℕ_discrete x place)) set-grows
    where
      go : (x : ℕ) → x < places_of w → needed_at then x ≡ true → Dec (x ≡ place) → needed_at w x ≡ true
      go x b e (yes d) = ap (needed_at w) d ∙ own
      go x b e (no d) = set-only x b d e

  -- and one that has none gets the page behind the segment.
  pub put-ring : (live pages first used : ℕ) (table owners : List ℕ) → WellBits w tag live → i + 1 ≡ live → entries_of w ≤ length table → pages ≤ length owners → used < pages
      → needed_at w place ≡ false → WellRing w pages first used table owners
      → WellRing then pages first (used + 1) (set table (entry_of w place) (nth_page pages first used)) (set owners (nth_page pages first used) place)
  put-ring live pages first used table owners q top long few room new r =
      claimed-ring (needed_at w) (needed_at then) (places_of w) pages first used place table owners (entry_of w) _ r room place-below entry_below few apart set_then set-only set-grows newest
    where
      entry_below : entry_of w place < length table
      entry_below =
          omega (arith, ap₂ (λ (x y : ℕ). x * blocks_of w + y) place-its-frame place-its-block, mul-le-mul frame_few (le_refl (blocks_of w)), suc-mul frame (blocks_of w), block_few)

      apart : (y : ℕ) → y < places_of w → needed_at w y ≡ true → entry_of w y ≢ entry_of w place
      apart y b e d =
          let m = needed-block w y e in
          let z = d ∙ ap₂ (λ (s t : ℕ). s * blocks_of w + t) place-its-frame place-its-block in
          let f : y / 512 ≡ frame = sym (digits_div (y / 512) m) ∙ (ap (λ (s : ℕ). s / blocks_of w) z ∙ digits_div frame block_few) in
          let c : y % 512 ≡ l / 8 = sym (digits_mod (y / 512) m) ∙ (ap (λ (s : ℕ). s % blocks_of w) z ∙ digits_mod frame block_few) in
          let same : y ≡ place = omega (arith, f, c) in
          false≢true (sym new ∙ (ap (needed_at w) (sym same) ∙ e))

      newest : (y : ℕ) → y < places_of w → needed_at w y ≡ true → owner_index w.frames w.omf y ≤ owner_index w.frames w.omf place
      newest y b e =
          let h = needed-line w y e in
          let k = index_below w.frames w.omf a.lent.omf_below (y / 512) in
          let is : index_of w.frames w.omf (place / 512) ≡ i = ap (index_of w.frames w.omf) place-its-frame ∙ index-frame w.frames w.omf a.lent.omf_below i a.index_below in
          go h.0 h.1 h.3 k is (dec_lt (index_of w.frames w.omf (y / 512)) live)
        where
          go : (m : ℕ) → m < w.lines → effective w (index_of w.frames w.omf (y / 512)) m ≡ true → index_of w.frames w.omf (y / 512) < w.frames
              → index_of w.frames w.omf (place / 512) ≡ i → Dec (index_of w.frames w.omf (y / 512) < live)
              → owner_index w.frames w.omf y ≤ owner_index w.frames w.omf place
          go m c s k is (yes d) =
              omega (
                arith,
                owner-index w.frames w.omf y (omega arith),
                owner-index w.frames w.omf place (omega (arith, place-below)),
              )
          go m c s k is (no d) = absurd (false≢true (sym (q.only_live (index_of w.frames w.omf (y / 512)) m (omega arith) k c) ∙ s))

-- RESET: no place is needed.
pub started-ring : (w : Written) (pages : ℕ) (table owners : List ℕ) → 0 < pages → ((i l : ℕ) → l < w.lines → effective w i l ≡ false) → WellRing w pages 0 0 table owners
started-ring w pages table owners some none =
    empty-ring (needed_at w) (places_of w) pages _ _ _ some (λ x b e. let h = needed-line w x e in false≢true (sym (none _ h.0 h.1) ∙ h.3))
