-- The collected lines' flags: what setting one, clearing all and giving a page out leave of them, and what they leave of the pages' owners.
-- Assumes nothing.
use mathlib.Core.Path.{◌≡◌, ◌∙◌, ap}
use mathlib.Core.Logic.{◌≢◌, inl}
use mathlib.Core.Bool.{true, false, not}
use mathlib.Core.List.{List}
use Prim.Native.Nat.{ℕ, ◌+◌, ◌≤◌, ◌<◌}
use native.Mathlib.Omega.{arith}
use lib.Dec.{eqb}
use lib.ListN.{length, get_or, set, drop, length-set}
use lib.Seq.{get_or-set_same, get_or-set_other, drop-set-lt}
use Rattle.frames.proofs.Circle.{frame_below}
use Rattle.written.specs.Bits.{Written}
use Rattle.lists.proofs.Lists.{from-length, from-drop, from-outside, from-inside}
use Rattle.pages.specs.Table.{needed_at, entry_of}
use Rattle.pages.specs.Ring.{nth_page, WellRing}
use Rattle.pages.specs.Flags.{collected_at, flagged, unflagged}

-- One flag is set.
module _ (pages l : ℕ) (owners : List ℕ) where
  pub flagged-length : length (flagged pages l owners) ≡ length owners
  unfolding flagged
  flagged-length = length-set owners (pages + l) 1

  pub flagged-below : (p : ℕ) → p < pages → get_or (flagged pages l owners) p 0 ≡ get_or owners p 0
  unfolding flagged
  flagged-below p b = get_or-set_other owners (pages + l) p 1 0 (λ e. omega (arith, b, e))

  pub flagged-past : (m : ℕ) → pages + l < m → drop m (flagged pages l owners) ≡ drop m owners
  unfolding flagged
  flagged-past m b = drop-set-lt m owners (pages + l) 1 b

  pub flagged-own : pages + l < length owners → collected_at pages (flagged pages l owners) l ≡ true
  unfolding collected_at flagged
  flagged-own b = ap (λ (x : ℕ). not (eqb x 0)) (get_or-set_same owners (pages + l) 1 0 b)

  pub flagged-other : (m : ℕ) → m ≢ l → collected_at pages (flagged pages l owners) m ≡ collected_at pages owners m
  unfolding collected_at flagged
  flagged-other m d = ap (λ (x : ℕ). not (eqb x 0)) (get_or-set_other owners (pages + l) (pages + m) 1 0 (λ e. d (omega (arith, e))))

-- A page's owner is another.
pub collected-owner : (pages : ℕ) (owners : List ℕ) (p v l : ℕ) → p < pages → collected_at pages (set owners p v) l ≡ collected_at pages owners l
unfolding collected_at
collected-owner pages owners p v l b = ap (λ (x : ℕ). not (eqb x 0)) (get_or-set_other owners p (pages + l) v 0 (λ e. omega (arith, b, e)))

-- All are cleared.
module _ (pages lines : ℕ) (owners : List ℕ) where
  pub unflagged-length : length (unflagged pages lines owners) ≡ length owners
  unfolding unflagged
  unflagged-length = from-length pages (λ _. 0) owners lines

  pub unflagged-below : (p : ℕ) → p < pages → get_or (unflagged pages lines owners) p 0 ≡ get_or owners p 0
  unfolding unflagged
  unflagged-below p b = from-outside pages (λ _. 0) owners lines p (inl b)

  pub unflagged-past : (m : ℕ) → pages + lines ≤ m → drop m (unflagged pages lines owners) ≡ drop m owners
  unfolding unflagged
  unflagged-past m b = from-drop pages (λ _. 0) owners lines m b

  pub unflagged-none : (l : ℕ) → l < lines → pages + lines ≤ length owners → collected_at pages (unflagged pages lines owners) l ≡ false
  unfolding collected_at unflagged
  unflagged-none l b h = ap (λ (x : ℕ). not (eqb x 0)) (from-inside pages (λ _. 0) owners lines (pages + l) (omega arith) (omega (arith, b)) h)

-- A ring is told by the owners of its pages alone.
pub ring-owners : (w : Written) (pages first used : ℕ) (table owners after : List ℕ) → ((p : ℕ) → p < pages → get_or after p 0 ≡ get_or owners p 0)
    → WellRing w pages first used table owners → WellRing w pages first used table after
ring-owners w pages first used table owners after same r =
    let at : (i : ℕ) → get_or after (nth_page pages first i) 0 ≡ get_or owners (nth_page pages first i) 0 = λ i. same _ (frame_below pages first r.first_below i) in
    record {
      first_below = r.first_below;
      used_few = r.used_few;
      backed = λ i b.
          let h = r.backed i b in
          record {
            owner_below = rw (at i) h.owner_below;
            needed = ap (needed_at w) (at i) ∙ h.needed;
            back = ap (λ (x : ℕ). get_or table (entry_of w x) 0) (at i) ∙ h.back;
          };
      paged = λ x b n.
          let h = r.paged x b n in
          record { page_below = h.page_below; inside = h.inside; back = same _ h.page_below ∙ h.back };
      rising = λ i j a b. rw (at i, at j) (r.rising i j a b);
    }
