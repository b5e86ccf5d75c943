-- What RESET, ADVANCE and WRITE do to archive, pool, groups, table and owners.
use Rattle.std.specs.Prelude.{◌≡◌, ℕ, zero, suc, ◌+◌, ◌*◌, ◌/◌, ◌%◌, ◌≤◌, ◌<◌, min, Bool, cond, List, ltb, length, get_or, Option, Some}
use Rattle.lists.specs.Lists.{rewrite}
use Rattle.written.specs.Bits.{Written, AsksWritten, effective}
use Rattle.written.specs.Steps.{cleared_block}
use Rattle.pages.specs.Lines.{page_line, with_archive_line}
use Rattle.pages.specs.Table.{blocks_of, place_at, AsksTable, entry_at, AsksEntry}
use Rattle.pages.specs.Ring.{nth_page, owner_index, index_at, owns, next_page, AsksRing}
use Rattle.pages.specs.Flags.{flagged}

-- RESET: "archive all zero".
unfoldable pub zeroed : (lines : ℕ) → List ℕ → List ℕ
zeroed lines archive = rewrite (16 * lines) (λ _ b. 0) archive

-- ADVANCE(k): "folds the k oldest frames into the archive, newest version of each line winning": page by page, those of older frames first.
-- A line is copied where it has an effective bit in the frame of the page, whose index is known:
unfoldable pub folded_line : Written → (pool : List ℕ) → (page index line : ℕ) → List ℕ → List ℕ
folded_line w pool page index l archive = cond (effective w index l) (with_archive_line archive l (page_line pool page (l % 8))) archive

-- the first n lines of a block,
unfoldable pub folded_lines : Written → (pool : List ℕ) → (page index block n : ℕ) → List ℕ → List ℕ
folded_lines w pool page index block zero archive = archive
folded_lines w pool page index block (suc n) archive = folded_line w pool page index (block * 8 + n) (folded_lines w pool page index block n archive)

-- all eight, if it is a block,
unfoldable pub folded_page : Written → (pool : List ℕ) → (page index block : ℕ) → List ℕ → List ℕ
folded_page w pool page index block archive = cond (ltb block (blocks_of w)) (folded_lines w pool page index block 8 archive) archive

-- and the first n pages of the ring.
unfoldable pub folded_pages : Written → (pages first : ℕ) → (pool owners : List ℕ) → ℕ → List ℕ → List ℕ
folded_pages w pages first pool owners zero archive = archive
folded_pages w pages first pool owners (suc n) archive =
    let owner = get_or owners (nth_page pages first n) 0 in
    folded_page w pool (nth_page pages first n) (owner_index w.frames w.omf owner) (owner % 512) (folded_pages w pages first pool owners n archive)

-- Each line that is copied is collected from then on (request 2.3: "`a` is left for lines that were collected"): its flag is set, in the same order.
-- `owners` is what the fold begins with, `so_far` what it has come to: no flag is a page's owner.
unfoldable pub flagged_line : Written → (pages index line : ℕ) → List ℕ → List ℕ
flagged_line w pages index l so_far = cond (effective w index l) (flagged pages l so_far) so_far

unfoldable pub flagged_lines : Written → (pages index block n : ℕ) → List ℕ → List ℕ
flagged_lines w pages index block zero so_far = so_far
flagged_lines w pages index block (suc n) so_far = flagged_line w pages index (block * 8 + n) (flagged_lines w pages index block n so_far)

unfoldable pub flagged_page : Written → (pages index block : ℕ) → List ℕ → List ℕ
flagged_page w pages index block so_far = cond (ltb block (blocks_of w)) (flagged_lines w pages index block 8 so_far) so_far

unfoldable pub flagged_pages : Written → (pages first : ℕ) → (owners : List ℕ) → ℕ → List ℕ
flagged_pages w pages first owners zero = owners
flagged_pages w pages first owners (suc n) =
    let owner = get_or owners (nth_page pages first n) 0 in
    flagged_page w pages (owner_index w.frames w.omf owner) (owner % 512) (flagged_pages w pages first owners n)

-- Their frames' bits in the lines of their blocks are cleared.
unfoldable pub cleared_page : (lines owner : ℕ) → List ℕ → List ℕ
cleared_page lines owner groups = cond (ltb (owner % 512) (lines / 8)) (cleared_block lines (owner / 512) (owner % 512) groups) groups

unfoldable pub cleared_pages : (lines pages first : ℕ) → (owners : List ℕ) → ℕ → List ℕ → List ℕ
cleared_pages lines pages first owners zero groups = groups
cleared_pages lines pages first owners (suc n) groups =
    cleared_page lines (get_or owners (nth_page pages first n) 0) (cleared_pages lines pages first owners n groups)

-- The page that a write to a line in a frame goes to: the one that the table names where it is the place's own, and else the next of the
-- ring. None: none is left.
module _ (lines pages first used : ℕ) (table owners : List ℕ) (f l : ℕ) where
  abbrev pub owns_page : Bool
  owns_page = owns pages first used owners (get_or table (entry_at lines f (l / 8)) 0) (place_at f (l / 8))

  unfoldable pub page_for : Option ℕ
  page_for = cond owns_page (Some (get_or table (entry_at lines f (l / 8)) 0)) (next_page pages first used)

  -- How many pages are in use then.
  unfoldable pub used_for : ℕ
  used_for = cond owns_page used (min pages (used + 1))

-- What is asked to give a write its page,
pub record AsksPageFor (lines frames omf pages first used frame line table owners : ℕ) : Type 0 where
  pub ring : AsksRing pages first used frames omf owners
  pub entry : AsksEntry lines frame (line / 8) table

-- and to put a line there, in the frame of an index: the line is copied to its slot, the page is the place's, and the written bit is set.
pub record AsksPut (w : Written) (pages tag line index page : ℕ) (pool table owners : List ℕ) : Type 0 where
  pub asks : AsksTable w table
  pub line_below : line < w.lines
  pub index_below : index < w.frames
  pub tag_below : tag < 256
  pub pages_few : pages ≤ 4096
  pub page_below : page < pages
  pub pool_long : 128 * pages ≤ length pool
  pub owners_long : pages ≤ length owners

-- What copying from a page asks: the page, the frame's index and the lengths,
pub record AsksCopy (w : Written) (pages page index archive pool owners : ℕ) : Type 0 where
  pub lent : AsksWritten w
  pub lines_by : w.lines % 8 ≡ 0
  pub page_below : page < pages
  pub pages_few : pages ≤ 4096
  pub index_below : index < w.frames
  pub archive_long : 16 * w.lines ≤ archive
  pub pool_long : 128 * pages ≤ pool
  pub owners_long : pages + w.lines ≤ owners

-- a fold: the ring besides.
pub record AsksFold (w : Written) (pages first used archive pool owners : ℕ) : Type 0 where
  pub lent : AsksWritten w
  pub lines_by : w.lines % 8 ≡ 0
  pub ring : AsksRing pages first used w.frames w.omf owners
  pub archive_long : 16 * w.lines ≤ archive
  pub pool_long : 128 * pages ≤ pool
  pub owners_long : pages + w.lines ≤ owners

-- What clearing asks: the pages' owners are of frames that there are.
pub record AsksGone (lines frames omf pages first used : ℕ) (owners : List ℕ) (gone groups : ℕ) : Type 0 where
  pub lines_few : lines ≤ 4096
  pub frames_by : frames % 16 ≡ 0
  pub ring : AsksRing pages first used frames omf (length owners)
  pub gone_few : gone ≤ used
  pub inside : (i : ℕ) → i < gone → index_at frames omf pages first owners i < frames
  pub groups_long : frames / 16 * lines ≤ groups
