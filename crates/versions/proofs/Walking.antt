-- A fold page by page on a ring: the last page walked that has a line is that of the line's newest version among the collected frames.
-- Assumes nothing.
use Rattle.std.specs.Prelude.{Option, Some, None}
use mathlib.Core.Path.{◌≡◌, refl, sym, ◌∙◌, ap, ap₂}
use mathlib.Core.Bool.{Bool, true, false, cond, ◌&&◌, false≢true}
use mathlib.Core.List.{List}
use Prim.Native.Nat.{ℕ, zero, suc, ◌+◌, ◌*◌, ◌/◌, ◌%◌, ◌≤◌, ◌<◌}
use native.Mathlib.Decide.{dec_lt}
use native.Mathlib.Omega.{arith}
use borrow.Author.Tests.{lt-ltb, eq-eqb, eqb-true}
use lib.Dec.{eqb}
use lib.ListN.{length, get_or}
use Rattle.rules.specs.Line.{Line}
use Rattle.rules.specs.Seen.{any}
use Rattle.rules.proofs.Count.{any-true, any_none, any_false, any_found}
use Rattle.rules.proofs.Tests.{both_true}
use Rattle.frames.specs.Circle.{index_of, frame_at}
use Rattle.numbers.specs.Search.{greatest}
use Rattle.frames.proofs.Circle.{frame_below, index-frame, frame-index}
use Rattle.numbers.proofs.Search.{greatest-none, greatest-at, greatest-nothing, Greatest, greatest-found}
use Rattle.written.specs.Bits.{Written, AsksWritten, effective}
use Rattle.pages.specs.Lines.{page_line, archive_line}
use Rattle.pages.specs.Table.{blocks_of, places_of, place_at, entry_of}
use Rattle.pages.specs.Ring.{nth_page, position_of, Rising, Splits, owner_index, index_at, WellRing}
use Rattle.pages.proofs.Needs.{place-frame, place-block, effective-needed}
use Rattle.pages.proofs.Keeping.{owner-index}
use Rattle.versions.specs.Newest.{page_of, spot_of, content_of}
use Rattle.versions.specs.Steps.{folded_pages}
use Rattle.versions.proofs.Archived.{walk, hit, pages-folded}

-- A walk that keeps the last hit is a search from the top down.
pick : {A : Type 0} (archive : A) (page : ℕ → A) → Option ℕ → A
pick archive page (Some i) = page i
pick archive page None = archive

walk-picks : {A : Type 0} (archive : A) (page : ℕ → A) (test : ℕ → Bool) (n : ℕ) → walk archive page test n ≡ pick archive page (greatest n test)
unfolding walk pick greatest
walk-picks archive page test zero = refl
walk-picks archive page test (suc n) = go (test n) (walk-picks archive page test n)
  where
    go : (t : Bool) → walk archive page test n ≡ pick archive page (greatest n test)
        → cond t (page n) (walk archive page test n) ≡ pick archive page (cond t (Some n) (greatest n test))
    go true ih = refl
    go false ih = ih

-- The newest of the first n positions that pass one test has the newest of the first k indexes that pass the other.
module _ (n k : ℕ) (f g : ℕ → Bool) (idx : ℕ → ℕ) (hits : (i : ℕ) → i < n → f i ≡ true → (idx i < k) × (g (idx i) ≡ true))
    (all : (j : ℕ) → j < k → g j ≡ true → (i : ℕ) × (i < n) × (f i ≡ true) × (idx i ≡ j)) (up : Rising n idx)
    (one : (i j : ℕ) → i < n → j < n → f i ≡ true → f j ≡ true → idx i ≡ idx j → i ≡ j) where
  newest-none : greatest k g ≡ None → greatest n f ≡ None
  newest-none e = greatest-none n f (λ i b. go i b (f i) refl)
    where
      go : (i : ℕ) → i < n → (t : Bool) → f i ≡ t → t ≡ false
      go i b true d =
          let h = hits i b d in
          absurd (false≢true (sym (greatest-nothing k g e (idx i) h.0) ∙ h.1))
      go i b false d = refl

  newest-some : (j : ℕ) → greatest k g ≡ Some j → (i : ℕ) × (i < n) × (greatest n f ≡ Some i) × (f i ≡ true) × (idx i ≡ j)
  newest-some j e =
      let h = greatest-found k g j e in
      let w = all j h.below h.passes in
      (w.0, w.1, greatest-at n f w.0 w.1 w.2 (λ m a c. go h w.0 w.1 w.2 w.3 m a c (f m) refl), w.2, w.3)
    where
      go : Greatest k g j → (i : ℕ) → i < n → f i ≡ true → idx i ≡ j → (m : ℕ) → i < m → m < n → (t : Bool) → f m ≡ t → t ≡ false
      go h i b p q m a c false d = refl
      go h i b p q m a c true d =
          let s = hits m c d in
          elim (dec_lt j (idx m)) [
            | yes z ↦ absurd (false≢true (sym (h.above (idx m) z s.0) ∙ s.1))
            | no z ↦
                let same : idx i ≡ idx m = omega (arith, up i m (omega arith) c) in
                absurd (omega (arith, one i m b c p d same))
          ]

-- The collected part of the ring, and a line.
module _ (w : Written) (lent : AsksWritten w) (pages first used gone k : ℕ) (below : k ≤ w.frames) (table owners : List ℕ) (r : WellRing w pages first used table owners)
    (parts : Splits used (index_at w.frames w.omf pages first owners) k gone) (by : w.lines % 8 ≡ 0) (l : ℕ) (line_below : l < w.lines) where
  abbrev owner : ℕ → ℕ
  owner i = get_or owners (nth_page pages first i) 0

  abbrev indexed : ℕ → ℕ
  indexed i = owner_index w.frames w.omf (owner i)

  abbrev has : ℕ → Bool
  has = hit w pages first owners l

  -- the line's place in the frame of an index
  abbrev place : ℕ → ℕ
  place j = place_at (frame_at w.frames w.omf j) (l / 8)

  block_few : l / 8 < 512
  block_few = omega (arith, lent.lines_few)

  place-below : (j : ℕ) → place j < places_of w
  place-below j = omega (arith, block_few, frame_below w.frames w.omf lent.omf_below j)

  place-owner : (j : ℕ) → j < w.frames → owner_index w.frames w.omf (place j) ≡ j
  place-owner j b =
      owner-index w.frames w.omf (place j) (omega (arith, place-below j))
      ∙ (ap (index_of w.frames w.omf) (place-frame (frame_at w.frames w.omf j) (l / 8) block_few) ∙ index-frame w.frames w.omf lent.omf_below j b)

  has-hits : (i : ℕ) → i < gone → has i ≡ true → (indexed i < k) × (effective w (indexed i) l ≡ true)
  unfolding index_at
  has-hits i b e = (parts.low i b, (both_true (eqb (owner i % 512) (l / 8)) (effective w (indexed i) l) e).1)

  pub has_all : (j : ℕ) → j < k → effective w j l ≡ true → (i : ℕ) × (i < gone) × (has i ≡ true) × (indexed i ≡ j)
  unfolding index_at
  has_all j b e =
      let few : j < w.frames = omega arith in
      let need = effective-needed w j l lent.lines_few lent.omf_below few (omega arith) e in
      let p = r.paged (place j) (place-below j) need in
      let i : ℕ = position_of pages first (get_or table (entry_of w (place j)) 0) in
      let here : owner i ≡ place j = ap (λ (q : ℕ). get_or owners q 0) (frame-index pages first r.first_below _ p.page_below) ∙ p.back in
      let is : indexed i ≡ j = ap (owner_index w.frames w.omf) here ∙ place-owner j few in (
        i,
        go i p.inside is (dec_lt i gone),
        ap₂ (λ (s t : Bool). s && t)
            (eq-eqb (owner i % 512) (l / 8) (ap (λ (x : ℕ). x % 512) here ∙ place-block (frame_at w.frames w.omf j) (l / 8) block_few))
            (ap (λ (z : ℕ). effective w z l) is ∙ e),
        is,
      )
    where
      go : (i : ℕ) → i < used → indexed i ≡ j → Dec (i < gone) → i < gone
      go i c is (yes d) = d
      go i c is (no d) = absurd (omega (arith, parts.high i (omega arith) c))

  has-rising : Rising gone indexed
  has-rising i j a b = r.rising i j a (omega (arith, parts.few))

  -- the owner of a page that has the line is the line's place in the frame of its index
  pub has-place : (i : ℕ) → i < used → has i ≡ true → owner i ≡ place (indexed i)
  has-place i b e =
      let o : owner i < places_of w = (r.backed i b).owner_below in
      let f : frame_at w.frames w.omf (indexed i) ≡ owner i / 512 =
      ap (frame_at w.frames w.omf) (owner-index w.frames w.omf (owner i) (omega arith))
      ∙ frame-index w.frames w.omf lent.omf_below (owner i / 512) (omega arith)
      in
      omega (arith, eqb-true (owner i % 512) (l / 8) (both_true (eqb (owner i % 512) (l / 8)) (effective w (indexed i) l) e).0)

  has-page : (i : ℕ) → i < used → has i ≡ true → nth_page pages first i ≡ get_or table (entry_of w (place (indexed i))) 0
  has-page i b e = sym (r.backed i b).back ∙ ap (λ (x : ℕ). get_or table (entry_of w x) 0) (has-place i b e)

  has_one : (i j : ℕ) → i < gone → j < gone → has i ≡ true → has j ≡ true → indexed i ≡ indexed j → i ≡ j
  has_one i j a b p q e =
      let c : i < used = omega (arith, parts.few) in
      let d : j < used = omega (arith, parts.few) in
      let same : nth_page pages first i ≡ nth_page pages first j =
      has-page i c p ∙ (ap (λ (x : ℕ). get_or table (entry_of w (place x)) 0) e ∙ sym (has-page j d q))
      in
      sym (index-frame pages first r.first_below i (omega (arith, r.used_few)))
      ∙ (ap (position_of pages first) same ∙ index-frame pages first r.first_below j (omega (arith, r.used_few)))

  -- Some page walked has the line exactly if some collected frame has it.
  pub any-collected : any gone has ≡ any k (λ j. effective w j l)
  any-collected = go (any k (λ j. effective w j l)) refl
    where
      go : (t : Bool) → any k (λ j. effective w j l) ≡ t → any gone has ≡ t
      go true e =
          let j = any_found k (λ j. effective w j l) e in
          let i = has_all j.0 j.1 j.2 in
          any-true gone has i.0 i.1 i.2
      go false e = any_none gone has (λ i b. none i b (has i) refl)
        where
          none : (i : ℕ) → i < gone → (t : Bool) → has i ≡ t → t ≡ false
          none i b true d =
              let h = has-hits i b d in
              absurd (false≢true (sym (any_false k (λ j. effective w j l) e (indexed i) h.0) ∙ h.1))
          none i b false d = refl

  -- Where no collected frame has the line the archive's own stays, and else its newest version among them comes.
  module _ (pool archive : List ℕ) where
    abbrev row : ℕ → Bool
    row j = effective w j l

    abbrev content : Option ℕ → Line
    content f = content_of archive pool l (spot_of w.lines w.frames w.omf pages table l f)

    picked : (f : Option ℕ) → greatest k row ≡ f → pick (archive_line archive l) (λ i. page_line pool (nth_page pages first i) (l % 8)) (greatest gone has) ≡ content f
    unfolding pick content_of spot_of page_of
    picked None e = ap (pick (archive_line archive l) (λ i. page_line pool (nth_page pages first i) (l % 8))) (newest-none gone k has row indexed has-hits has_all has-rising has_one e)
    picked (Some j) e =
        let h = newest-some gone k has row indexed has-hits has_all has-rising has_one j e in
        let c : h.0 < used = omega (arith, h.1, parts.few) in
        let page : nth_page pages first h.0 ≡ page_of w.lines w.frames w.omf table j l =
        has-page h.0 c h.3
        ∙ (ap (λ (x : ℕ). get_or table (entry_of w (place x)) 0) h.4
        ∙ ap₂ (λ (x y : ℕ). get_or table (x * blocks_of w + y) 0) (place-frame (frame_at w.frames w.omf j) (l / 8) block_few) (place-block (frame_at w.frames w.omf j) (l / 8) block_few))
        in
        let low : page_of w.lines w.frames w.omf table j l < pages = omega (arith, page, frame_below pages first r.first_below h.0) in
        ap (pick (archive_line archive l) (λ i. page_line pool (nth_page pages first i) (l % 8))) h.2
        ∙ (ap (λ (p : ℕ). page_line pool p (l % 8)) page
        ∙ sym (ap (λ (t : Bool). content_of archive pool l (cond t (Some (page_of w.lines w.frames w.omf table j l)) None)) (lt-ltb (page_of w.lines w.frames w.omf table j l) pages low)))

    pub folded-line : 16 * w.lines ≤ length archive → 128 * pages ≤ length pool → archive_line (folded_pages w pages first pool owners gone archive) l ≡ content (greatest k row)
    folded-line inside room =
        (pages-folded w pages first owners pool gone archive by inside r.first_below room).line l line_below
        ∙ (walk-picks (archive_line archive l) (λ i. page_line pool (nth_page pages first i) (l % 8)) has gone ∙ picked (greatest k row) refl)
