-- The segment of needed pages: as many as places are needed, and what keeps it: a page given out, a rollback, an advance, a reset. The laws
-- are over any table, owners, indexes and need. Assumes nothing.
use mathlib.Core.Path.{◌≡◌, sym, ◌∙◌, ap, subst}
use mathlib.Core.Bool.{Bool, true}
use mathlib.Core.Logic.{◌≢◌}
use mathlib.Core.List.{List}
use Prim.Native.Nat.{ℕ, ◌+◌, ◌-◌, ◌%◌, ◌≤◌, ◌<◌}
use native.Mathlib.Nat.{add_assoc, mod-add-mod}
use native.Mathlib.Decide.{ℕ_discrete, dec_lt}
use native.Mathlib.Omega.{arith}
use lib.ListN.{length, get_or, set}
use lib.Seq.{get_or-set_same, get_or-set_other}
use Rattle.rules.specs.Seen.{count}
use Rattle.frames.specs.Circle.{frame_at}
use Rattle.frames.proofs.Circle.{frame_below, index-frame, frame-index}
use Rattle.pages.specs.Ring.{nth_page, position_of, Backed, Paged, Rising, Segment, Splits}
use Rattle.pages.proofs.Counting.{count-names}

-- What a segment says.
module _ {need : ℕ → Bool} {places pages first used : ℕ} {table owners index : ℕ → ℕ} (r : Segment need places pages first used table owners index) where
  -- a page in it is backed,
  pub page-backed : (p : ℕ) → p < pages → position_of pages first p < used → Backed need places table owners p
  page-backed p b c =
      subst (λ (q : ℕ). Backed need places table owners q) (frame-index pages first r.first_below p b) (r.backed (position_of pages first p) c)

  -- so that a place which owns a page of it is needed: no group is read.
  pub own-needed : (x : ℕ) → table x < pages → position_of pages first (table x) < used → owners (table x) ≡ x → need x ≡ true
  own-needed x b c e = ap need (sym e) ∙ (page-backed (table x) b c).needed

  -- Two needed places never share a page.
  pub one-page : (x y : ℕ) → x < places → need x ≡ true → y < places → need y ≡ true → table x ≡ table y → x ≡ y
  one-page x y a m b n e = sym (r.paged x a m).back ∙ (ap owners e ∙ (r.paged y b n).back)

  -- The page behind the segment is no needed place's.
  pub next-free : (x : ℕ) → x < places → need x ≡ true → used < pages → table x ≢ nth_page pages first used
  next-free x b n room e =
      omega (arith, (r.paged x b n).inside, ap (position_of pages first) e, index-frame pages first r.first_below used room)

  -- The segment is as long as places are needed: COUNTS, and 13 where it goes all round.
  pub segment-count : used ≡ count places need
  segment-count =
      count-names places need used (λ i. owners (nth_page pages first i)) (λ i b. ((r.backed i b).owner_below, (r.backed i b).needed)) once all
    where
      once : (i j : ℕ) → i < used → j < used → owners (nth_page pages first i) ≡ owners (nth_page pages first j) → i ≡ j
      once i j a b e =
          let same : nth_page pages first i ≡ nth_page pages first j = sym (r.backed i a).back ∙ (ap table e ∙ (r.backed j b).back) in
          sym (index-frame pages first r.first_below i (omega (arith, r.used_few)))
          ∙ (ap (position_of pages first) same ∙ index-frame pages first r.first_below j (omega (arith, r.used_few)))

      all : (x : ℕ) → x < places → need x ≡ true → (i : ℕ) × (i < used) × (owners (nth_page pages first i) ≡ x)
      all x b n =
          let k = r.paged x b n in
          (position_of pages first (table x), k.inside, ap owners (frame-index pages first r.first_below (table x) k.page_below) ∙ k.back)

-- Giving out the page behind the segment to a place that was not needed and whose index is the newest.
module _ (need more : ℕ → Bool) (places pages first used x : ℕ) (table owners index table' owners' : ℕ → ℕ) (r : Segment need places pages first used table owners index)
    (room : used < pages) (below : x < places) (then : more x ≡ true) (only : (y : ℕ) → y < places → y ≢ x → more y ≡ true → need y ≡ true) (grows : (y : ℕ) → y < places → need y ≡ true → more y ≡ true)
    (newest : (y : ℕ) → y < places → need y ≡ true → index y ≤ index x)
    (entry : table' x ≡ nth_page pages first used) (entries : (y : ℕ) → y < places → need y ≡ true → table' y ≡ table y)
    (owner : owners' (nth_page pages first used) ≡ x) (others : (q : ℕ) → q ≢ nth_page pages first used → owners' q ≡ owners q) where
  apart : (i : ℕ) → i < used → nth_page pages first i ≢ nth_page pages first used
  apart i b e =
      absurd (omega (arith, index-frame pages first r.first_below i (omega arith), index-frame pages first r.first_below used room, ap (position_of pages first) e))

  given-backed : (i : ℕ) → i < used + 1 → Backed more places table' owners' (nth_page pages first i)
  given-backed i b = go (ℕ_discrete i used)
    where
      go : Dec (i ≡ used) → Backed more places table' owners' (nth_page pages first i)
      go (yes e) =
          let o : owners' (nth_page pages first i) ≡ x = ap (λ (k : ℕ). owners' (nth_page pages first k)) e ∙ owner in
          record { owner_below = omega (arith, o); needed = ap more o ∙ then; back = ap table' o ∙ (entry ∙ ap (nth_page pages first) (sym e)) }
      go (no d) =
          let k = r.backed i (omega arith) in
          let o = others (nth_page pages first i) (apart i (omega arith)) in
          record {
            owner_below = omega (arith, o, k.owner_below);
            needed = ap more o ∙ grows (owners (nth_page pages first i)) k.owner_below k.needed;
            back = ap table' o ∙ (entries (owners (nth_page pages first i)) k.owner_below k.needed ∙ k.back);
          }

  given-paged : (y : ℕ) → y < places → more y ≡ true → Paged pages first (used + 1) table' owners' y
  given-paged y b n = go (ℕ_discrete y x)
    where
      go : Dec (y ≡ x) → Paged pages first (used + 1) table' owners' y
      go (yes e) =
          let t : table' y ≡ nth_page pages first used = ap table' e ∙ entry in
          record {
            page_below = omega (arith, t, frame_below pages first r.first_below used);
            inside = omega (arith, ap (position_of pages first) t, index-frame pages first r.first_below used room);
            back = ap owners' t ∙ (owner ∙ sym e);
          }
      go (no d) =
          let was = only y b d n in
          let k = r.paged y b was in
          let t = entries y b was in
          let far : table y ≢ nth_page pages first used =
          λ z. absurd (omega (arith, k.inside, ap (position_of pages first) z, index-frame pages first r.first_below used room))
          in
          record {
            page_below = omega (arith, t, k.page_below);
            inside = omega (arith, ap (position_of pages first) t, k.inside);
            back = ap owners' t ∙ (others (table y) far ∙ k.back);
          }

  old-index : (i : ℕ) → i < used → index (owners' (nth_page pages first i)) ≡ index (owners (nth_page pages first i))
  old-index i b = ap index (others (nth_page pages first i) (apart i b))

  given-rising : Rising (used + 1) (λ i. index (owners' (nth_page pages first i)))
  given-rising i j a b = go (ℕ_discrete j used) (ℕ_discrete i used)
    where
      last : (k : ℕ) → k ≡ used → index (owners' (nth_page pages first k)) ≡ index x
      last k e = ap index (ap (λ (m : ℕ). owners' (nth_page pages first m)) e ∙ owner)

      go : Dec (j ≡ used) → Dec (i ≡ used) → index (owners' (nth_page pages first i)) ≤ index (owners' (nth_page pages first j))
      go (yes e) (yes d) = omega (arith, last i d, last j e)
      go (yes e) (no d) =
          let k = r.backed i (omega arith) in
          omega (arith, last j e, old-index i (omega arith), newest (owners (nth_page pages first i)) k.owner_below k.needed)
      go (no e) (yes d) = absurd (omega arith)
      go (no e) (no d) = omega (arith, old-index i (omega arith), old-index j (omega arith), r.rising i j a (omega arith))

  pub given-ring : Segment more places pages first (used + 1) table' owners' index
  given-ring =
      record { first_below = r.first_below; used_few = omega arith; backed = given-backed; paged = given-paged; rising = given-rising }

-- The same by the two stores of `claim`, where each place has its entry of the table.
pub claimed-ring : (need more : ℕ → Bool) (places pages first used x : ℕ) (table owners : List ℕ) (at index : ℕ → ℕ)
    → Segment need places pages first used (λ y. get_or table (at y) 0) (λ q. get_or owners q 0) index → used < pages → x < places → at x < length table → pages ≤ length owners
    → ((y : ℕ) → y < places → need y ≡ true → at y ≢ at x) → more x ≡ true → ((y : ℕ) → y < places → y ≢ x → more y ≡ true → need y ≡ true)
    → ((y : ℕ) → y < places → need y ≡ true → more y ≡ true) → ((y : ℕ) → y < places → need y ≡ true → index y ≤ index x)
    → Segment more places pages first (used + 1) (λ y. get_or (set table (at x) (nth_page pages first used)) (at y) 0) (λ q. get_or (set owners (nth_page pages first used) x) q 0) index
claimed-ring need more places pages first used x table owners at index r room below few long apart then only grows newest =
    given-ring need more places pages first used x _ _ index _ _ r room below then only grows newest
    (get_or-set_same table (at x) (nth_page pages first used) 0 few)
    (λ y b n. get_or-set_other table (at x) (at y) (nth_page pages first used) 0 (apart y b n))
    (get_or-set_same owners (nth_page pages first used) x 0 (omega (arith, frame_below pages first r.first_below used)))
    (λ q d. get_or-set_other owners (nth_page pages first used) q x 0 d)

-- A write to a place that has its page: the same places are needed.
pub same-ring : (need more : ℕ → Bool) (places pages first used : ℕ) (table owners index : ℕ → ℕ) → Segment need places pages first used table owners index
    → ((x : ℕ) → x < places → more x ≡ true → need x ≡ true) → ((x : ℕ) → x < places → need x ≡ true → more x ≡ true)
    → Segment more places pages first used table owners index
same-ring need more places pages first used table owners index r only grows =
    record {
      first_below = r.first_below;
      used_few = r.used_few;
      backed = λ i b.
          let k = r.backed i b in
          record { owner_below = k.owner_below; needed = grows _ k.owner_below k.needed; back = k.back };
      paged = λ x b n. r.paged x b (only x b n);
      rising = r.rising;
    }

-- A rollback: the places with an index below the limit stay, and the segment ends where the owners' indexes reach it.
module _ (need less : ℕ → Bool) (places pages first used kept limit : ℕ) (table owners index : ℕ → ℕ) (r : Segment need places pages first used table owners index)
    (s : Splits used (λ i. index (owners (nth_page pages first i))) limit kept)
    (only : (x : ℕ) → x < places → less x ≡ true → (need x ≡ true) × (index x < limit))
    (keeps : (x : ℕ) → x < places → need x ≡ true → index x < limit → less x ≡ true) where
  kept-paged : (x : ℕ) → x < places → less x ≡ true → Paged pages first kept table owners x
  kept-paged x b n =
      let o = only x b n in
      let k = r.paged x b o.0 in
      record { page_below = k.page_below; inside = go k o.1 (dec_lt (position_of pages first (table x)) kept); back = k.back }
    where
      go : Paged pages first used table owners x → index x < limit → Dec (position_of pages first (table x) < kept) → position_of pages first (table x) < kept
      go k l (yes c) = c
      go k l (no c) =
          absurd
          (omega (
            arith,
            s.high (position_of pages first (table x)) (omega arith) k.inside,
            ap (λ (q : ℕ). index (owners q)) (frame-index pages first r.first_below (table x) k.page_below),
            ap index k.back,
          ))

  pub kept-ring : Segment less places pages first kept table owners index
  kept-ring =
      record {
        first_below = r.first_below;
        used_few = omega (arith, s.few, r.used_few);
        backed =
            λ i b.
            let k = r.backed i (omega (arith, s.few)) in
            record { owner_below = k.owner_below; needed = keeps _ k.owner_below k.needed (s.low i b); back = k.back };
        paged = kept-paged;
        rising = λ i j a b. r.rising i j a (omega (arith, s.few));
      }

-- The page at a position after the segment's start has moved on.
page-on : (pages first k i : ℕ) → nth_page pages (nth_page pages first k) i ≡ nth_page pages first (k + i)
unfolding frame_at
page-on pages first k i = mod-add-mod (first + k) pages i ∙ ap (λ (x : ℕ). x % pages) (add_assoc first k i)

-- An advance: the places with an index below k are gone, the others' indexes go down by k, and the segment starts behind the pages that are gone.
module _ (need less : ℕ → Bool) (places pages first used gone k : ℕ) (table owners index index' : ℕ → ℕ) (r : Segment need places pages first used table owners index)
    (s : Splits used (λ i. index (owners (nth_page pages first i))) k gone)
    (only : (x : ℕ) → x < places → less x ≡ true → (need x ≡ true) × (k ≤ index x))
    (keeps : (x : ℕ) → x < places → need x ≡ true → k ≤ index x → less x ≡ true)
    (down : (x : ℕ) → x < places → need x ≡ true → k ≤ index x → k + index' x ≡ index x) where
  abbrev start : ℕ
  start = nth_page pages first gone

  start-below : start < pages
  start-below = frame_below pages first r.first_below gone

  on : (i : ℕ) → nth_page pages start i ≡ nth_page pages first (gone + i)
  on i = page-on pages first gone i

  -- a position counted from the new start
  position-on : (p : ℕ) → p < pages → gone ≤ position_of pages first p → position_of pages first p < used → gone + position_of pages start p ≡ position_of pages first p
  position-on p b a c =
      let i : ℕ = position_of pages first p - gone in
      let whole : gone + i ≡ position_of pages first p = omega arith in
      let here : nth_page pages start i ≡ p = on i ∙ (ap (nth_page pages first) whole ∙ frame-index pages first r.first_below p b) in
      let same : position_of pages start p ≡ i = ap (position_of pages start) (sym here) ∙ index-frame pages start start-below i (omega (arith, r.used_few)) in
      omega arith

  passed-backed : (i : ℕ) → i < used - gone → Backed less places table owners (nth_page pages start i)
  passed-backed i b =
      let h = r.backed (gone + i) (omega arith) in
      let o : owners (nth_page pages start i) ≡ owners (nth_page pages first (gone + i)) = ap owners (on i) in
      record {
        owner_below = omega (arith, o, h.owner_below);
        needed = ap less o ∙ keeps _ h.owner_below h.needed (s.high (gone + i) (omega arith) (omega arith));
        back = ap table o ∙ (h.back ∙ sym (on i));
      }

  passed-paged : (x : ℕ) → x < places → less x ≡ true → Paged pages start (used - gone) table owners x
  passed-paged x b n =
      let o = only x b n in
      let h = r.paged x b o.0 in
      let c : gone ≤ position_of pages first (table x) = go h o.1 (dec_lt (position_of pages first (table x)) gone) in
      record { page_below = h.page_below; inside = omega (arith, position-on (table x) h.page_below c h.inside, h.inside); back = h.back }
    where
      go : Paged pages first used table owners x → k ≤ index x → Dec (position_of pages first (table x) < gone) → gone ≤ position_of pages first (table x)
      go h l (no c) = omega arith
      go h l (yes c) =
          absurd
          (omega (
            arith,
            s.low (position_of pages first (table x)) c,
            ap (λ (q : ℕ). index (owners q)) (frame-index pages first r.first_below (table x) h.page_below),
            ap index h.back,
          ))

  lowered : (i : ℕ) → i < used - gone → k + index' (owners (nth_page pages start i)) ≡ index (owners (nth_page pages first (gone + i)))
  lowered i b =
      let h = r.backed (gone + i) (omega arith) in
      ap (λ (q : ℕ). k + index' (owners q)) (on i) ∙ down _ h.owner_below h.needed (s.high (gone + i) (omega arith) (omega arith))

  passed-rising : Rising (used - gone) (λ i. index' (owners (nth_page pages start i)))
  passed-rising i j a b = omega (arith, lowered i (omega arith), lowered j b, r.rising (gone + i) (gone + j) (omega arith) (omega arith))

  pub passed-ring : Segment less places pages start (used - gone) table owners index'
  passed-ring =
      record { first_below = start-below; used_few = omega (arith, r.used_few); backed = passed-backed; paged = passed-paged; rising = passed-rising }

-- A reset: no place is needed, the segment is empty, and table and owners may hold anything.
pub empty-ring : (need : ℕ → Bool) (places pages : ℕ) (table owners index : ℕ → ℕ) → 0 < pages → ((x : ℕ) → x < places → need x ≢ true)
    → Segment need places pages 0 0 table owners index
empty-ring need places pages table owners index some none =
    record {
      first_below = some;
      used_few = omega arith;
      backed = λ i b. absurd (omega arith);
      paged = λ x b n. absurd (none x b n);
      rising = λ i j a b. absurd (omega arith);
    }
