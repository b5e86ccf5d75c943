-- Lines of the pool and of the archive.
use Rattle.std.specs.Prelude.{ℕ, ◌+◌, ◌*◌, ◌≤◌, ◌<◌, List}
use Rattle.rules.specs.Line.{Line, block_of}
use Rattle.lists.specs.Lines.{line_at, paste_line}

-- "P data pages of 128 bytes", "A page holds 8 neighbouring lines": the line in a slot of a page of the pool.
abbrev pub page_line : (pool : List ℕ) (page slot : ℕ) → Line
page_line pool page slot = line_at pool (128 * page + 16 * slot)

-- "The pool's part starting at a page's first byte is handed on to the line reader and copier": the pool with a line copied to a slot of a page.
abbrev pub with_page_line : (pool : List ℕ) (page slot : ℕ) → Line → List ℕ
with_page_line pool page slot x = paste_line pool (128 * page + 16 * slot) x

-- "The archive is a lent memory of 16 × L bytes": a line of it.
abbrev pub archive_line : (archive : List ℕ) (line : ℕ) → Line
archive_line archive line = line_at archive (16 * line)

-- "folds the k oldest frames into the archive": the archive with a content copied to a line of it.
abbrev pub with_archive_line : (archive : List ℕ) (line : ℕ) → Line → List ℕ
with_archive_line archive line x = paste_line archive (16 * line) x

-- What is asked of a page and the length of the pool: "P is 1 to 4,096".
pub record AsksPage (page slot long : ℕ) : Type 0 where
  pub page_few : page < 4096
  pub slot_below : slot < 8
  pub room : 128 * page + 128 ≤ long

-- What is asked of a line and the length of the archive, which has whole blocks: "L is a multiple of 8 from 8 to 4,096".
pub record AsksArchive (line long : ℕ) : Type 0 where
  pub line_few : line < 4096
  pub room : 128 * block_of line + 128 ≤ long
