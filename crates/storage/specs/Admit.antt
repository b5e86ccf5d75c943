-- The tests of a state and of lent lengths: 5 and 6, which every call but RESET makes first.
use Rattle.std.specs.Prelude.{ℕ, ◌+◌, ◌*◌, ◌/◌, ◌%◌, ◌≤◌, ◌<◌, ◌≡◌, true}
use Rattle.rules.specs.Settings.{Settings, Pieces, within, enough}
use Rattle.rules.specs.Line.{line_of, offset_of}
use Rattle.rules.specs.declared.Need.{Need}
use Rattle.rules.specs.Registers.{Registers, live_frames}
use Rattle.rules.specs.Refusal.{unless, facts_by, state_refusal}
use Rattle.lists.specs.Lines.{AsksBytes}
use Rattle.storage.specs.declared.Lengths.{Lengths}

-- The measured lengths as the rules have them.
abbrev pub pieces_of : Lengths → Pieces
pieces_of n =
    record {
      archive = n.archive;
      pool = n.pool;
      groups = n.groups;
      table = n.table;
      owners = n.owners;
      history = n.history;
    }

-- What the sizing call says, by the count of elements.
abbrev pub in_elements : Need → Pieces
in_elements need =
    record {
      archive = need.archive;
      pool = need.pool;
      groups = need.groups / 4;
      table = need.table / 2;
      owners = need.owners / 4;
      history = need.history / 2;
    }

-- 6 behind the limits, with the number that settings outside them get: 4 if they are asked for, 5 in a state.
abbrev pub settings_refusal : (outside : ℕ) → Settings → Pieces → ℕ
settings_refusal outside s p = unless (within s) outside (unless (enough s p) 6 0)

-- 5 and 6, before the rest of a call's chain.
abbrev pub admitted : Registers → Pieces → (rest : ℕ) → ℕ
admitted r lengths rest = state_refusal (facts_by r lengths) rest

-- What the calls have that pass them, as numbers: the state and the lent lengths,
pub record Room (r : Registers) (p : Pieces) : Type 0 where
  pub limits : within r.settings ≡ true
  pub lines_from : 8 ≤ r.settings.lines
  pub lines_to : r.settings.lines ≤ 4096
  pub lines_by : r.settings.lines % 8 ≡ 0
  pub frames_to : r.settings.frames ≤ 256
  pub frames_by : r.settings.frames % 16 ≡ 0
  pub pages_from : 1 ≤ r.settings.pages
  pub pages_to : r.settings.pages ≤ 4096
  pub cmf_below : r.cmf < r.settings.frames
  pub omf_below : r.omf < r.settings.frames
  pub live_some : 0 < live_frames r
  pub live_most : live_frames r ≤ r.settings.frames
  pub archive_long : 16 * r.settings.lines ≤ p.archive
  pub pool_long : 128 * r.settings.pages ≤ p.pool
  pub groups_long : r.settings.frames / 16 * r.settings.lines ≤ p.groups
  pub table_long : r.settings.frames * (r.settings.lines / 8) ≤ p.table
  pub owners_long : r.settings.pages + r.settings.lines ≤ p.owners
  pub history_long : 256 ≤ p.history

-- LINE's line,
pub record LineRoom (r : Registers) (p : Pieces) (line : ℕ) : Type 0 where
  pub room : Room r p
  pub line_below : line < r.settings.lines

-- the place of READ and WRITE, whose bytes lie in one line,
pub record PlaceRoom (r : Registers) (p : Pieces) (width address : ℕ) : Type 0 where
  pub room : Room r p
  pub line_below : line_of address < r.settings.lines
  pub bytes : AsksBytes width (offset_of address)

-- and the frames of ROLLBACK and ADVANCE.
pub record FramesRoom (r : Registers) (p : Pieces) (k : ℕ) : Type 0 where
  pub room : Room r p
  pub k_some : 0 < k
  pub k_low : k < live_frames r

-- A refusal, and what there is where there is none.
abbrev pub Admits : (refusal told : ℕ) → Type 0 → Type 0
Admits refusal told R = (refusal ≡ told) × (refusal ≡ 0 → R)
