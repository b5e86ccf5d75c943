-- Pages in a ring. A page is given out to CMF only, and frames die only at the two ends, so the needed pages are one segment of the pool's
-- circle, in the order of their frames' indexes.
use Rattle.std.specs.Prelude.{ℕ, ◌/◌, ◌≤◌, ◌<◌, ◌≡◌, Bool, true, cond, ◌&&◌, List, ltb, eqb, get_or, Option, Some, None}
use Rattle.frames.specs.Circle.{index_of, frame_at}
use Rattle.written.specs.Bits.{Written}
use Rattle.pages.specs.Table.{places_of, entry_of, needed_at}

-- The page at a position of the segment, counted from its oldest page, and a page's position: pages turn as frames do.
abbrev pub nth_page : (pages first i : ℕ) → ℕ
nth_page pages first i = frame_at pages first i

abbrev pub position_of : (pages first page : ℕ) → ℕ
position_of pages first page = index_of pages first page

-- The index from OMF of an owner's frame; an owner of no frame counts as high.
unfoldable pub owner_index : (frames omf owner : ℕ) → ℕ
owner_index frames omf owner = cond (ltb (owner / 512) frames) (index_of frames omf (owner / 512)) frames

-- That of the owner at a position.
unfoldable pub index_at : (frames omf pages first : ℕ) (owners : List ℕ) → ℕ → ℕ
index_at frames omf pages first owners i = owner_index frames omf (get_or owners (nth_page pages first i) 0)

-- A page's owner is a place that is needed and for which the table has the page.
pub record Backed (need : ℕ → Bool) (places : ℕ) (table owners : ℕ → ℕ) (p : ℕ) : Type 0 where
  pub owner_below : owners p < places
  pub needed : need (owners p) ≡ true
  pub back : table (owners p) ≡ p

-- A place has a page of the segment, and owns it.
pub record Paged (pages first used : ℕ) (table owners : ℕ → ℕ) (x : ℕ) : Type 0 where
  pub page_below : table x < pages
  pub inside : position_of pages first (table x) < used
  pub back : owners (table x) ≡ x

-- Numbers that never fall.
abbrev pub Rising : (n : ℕ) (f : ℕ → ℕ) → Type 0
Rising n f = (i j : ℕ) → i ≤ j → j < n → f i ≤ f j

-- The segment holds the needed places' pages and no others, in the order of their frames.
pub record Segment (need : ℕ → Bool) (places pages first used : ℕ) (table owners index : ℕ → ℕ) : Type 0 where
  pub first_below : first < pages
  pub used_few : used ≤ pages
  pub backed : (i : ℕ) → i < used → Backed need places table owners (nth_page pages first i)
  pub paged : (x : ℕ) → x < places → need x ≡ true → Paged pages first used table owners x
  pub rising : Rising used (λ i. index (owners (nth_page pages first i)))

-- The same of the written bits, the table and the owners.
abbrev pub WellRing : Written → (pages first used : ℕ) (table owners : List ℕ) → Type 0
WellRing w pages first used table owners =
    Segment (needed_at w) (places_of w) pages first used (λ x. get_or table (entry_of w x) 0) (λ p. get_or owners p 0) (owner_index w.frames w.omf)

-- Whether a page lies in the segment and a place owns it. On a ring it is the place's just then.
unfoldable pub owns : (pages first used : ℕ) (owners : List ℕ) (page place : ℕ) → Bool
owns pages first used owners page place =
    ltb page pages && (ltb (position_of pages first page) used && eqb (get_or owners page 0) place)

-- The page that is given out: the one behind the segment, if that does not go all round.
unfoldable pub next_page : (pages first used : ℕ) → Option ℕ
next_page pages first used = cond (ltb used pages) (Some (nth_page pages first used)) None

-- r parts the first n numbers into those below a limit and the others.
pub record Splits (n : ℕ) (f : ℕ → ℕ) (limit r : ℕ) : Type 0 where
  pub few : r ≤ n
  pub low : (i : ℕ) → i < r → f i < limit
  pub high : (i : ℕ) → r ≤ i → i < n → limit ≤ f i

-- How many numbers come before the first that is not below a limit: exact where they never fall, and never more than there are.
pub record Leading (n : ℕ) (f : ℕ → ℕ) (limit r : ℕ) : Type 0 where
  pub few : r ≤ n
  pub exact : Rising n f → Splits n f limit r

-- The same by going from one to the next: exact on any numbers.
pub record Leads (n : ℕ) (f : ℕ → ℕ) (limit r : ℕ) : Type 0 where
  pub few : r ≤ n
  pub low : (i : ℕ) → i < r → f i < limit
  pub stop : r < n → limit ≤ f r

-- What the functions ask of the numbers and the lent length.
pub record AsksRing (pages first used frames omf long : ℕ) : Type 0 where
  pub first_below : first < pages
  pub used_few : used ≤ pages
  pub pages_few : pages ≤ 4096
  pub owners_long : pages ≤ long
  pub omf_below : omf < frames
  pub frames_few : frames ≤ 4096
