-- The settings of a store, their limits, and the size of each piece of lent memory.
-- Quotations are of document 01 unless another source is named.
use Rattle.std.specs.Prelude.{ℕ, ◌+◌, ◌*◌, ◌/◌, ◌%◌, Bool, ◌&&◌, leb, eqb}

-- "Memory is 16 × L bytes in L lines of 16 bytes. It has F frames used in a circle, and P data pages of 128 bytes."
pub record Settings : Type 0 where
  pub lines : ℕ
  pub frames : ℕ
  pub pages : ℕ

-- "F frames used in a circle": the frames round it.
abbrev pub circle : Settings → ℕ
circle s = s.frames

-- "L is a multiple of 8 from 8 to 4,096. F is a multiple of 16 from 16 to 256 .. P is 1 to 4,096."
unfoldable pub within : Settings → Bool
within s =
    (leb 8 s.lines && leb s.lines 4096 && eqb (s.lines % 8) 0)
    && (leb 16 s.frames && leb s.frames 256 && eqb (s.frames % 16) 0)
    && (leb 1 s.pages && leb s.pages 4096)

-- A number for each piece of lent memory: written bits in groups of sixteen with their tag, the rollback history,
-- the page table and the pages' owners, with the collected lines' flags behind them (request 2.3), beside the archive and the pool.
pub record Pieces : Type 0 where
  pub archive : ℕ
  pub pool : ℕ
  pub groups : ℕ
  pub table : ℕ
  pub owners : ℕ
  pub history : ℕ

-- How many elements of each piece a store with these settings needs: "The archive is a lent memory of 16 × L bytes beside
-- the pool of 128 × P bytes"; a group for 16 frames of a line; a table entry for each frame and block of 8 lines ("A page
-- holds 8 neighbouring lines of one frame"); an owner for each page and a flag for each line; a history entry for each "8-bit tag".
unfoldable pub elements : Settings → Pieces
elements s =
    record {
      archive = 16 * s.lines;
      pool = 128 * s.pages;
      groups = s.frames / 16 * s.lines;
      table = s.frames * (s.lines / 8);
      owners = s.pages + s.lines;
      history = 256;
    }

-- "A sizing call gives the exact need of each piece from L, F and P", in bytes: archive and pool are lent as bytes, the
-- groups and owners as numbers of 4 bytes, the table and the history as numbers of 2.
unfoldable pub bytes : Settings → Pieces
bytes s =
    record {
      archive = (elements s).archive;
      pool = (elements s).pool;
      groups = 4 * (elements s).groups;
      table = 2 * (elements s).table;
      owners = 4 * (elements s).owners;
      history = 2 * (elements s).history;
    }

-- No piece is shorter than the need: the opposite of "A lent memory is shorter than the sizing call says", by the count of
-- elements.
unfoldable pub covers : (need lengths : Pieces) → Bool
covers need lengths =
    leb need.archive lengths.archive
    && leb need.pool lengths.pool
    && leb need.groups lengths.groups
    && leb need.table lengths.table
    && leb need.owners lengths.owners
    && leb need.history lengths.history

abbrev pub enough : Settings → Pieces → Bool
enough s lengths = covers (elements s) lengths
