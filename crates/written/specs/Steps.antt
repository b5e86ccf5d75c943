-- What writing, a rollback and an advance leave in the groups and the history.
use Rattle.std.specs.Prelude.{ℕ, zero, suc, ◌+◌, ◌-◌, ◌*◌, ◌/◌, ◌%◌, ◌≤◌, ◌<◌, min, ◌≡◌, Bool, cond, List, eqb, leb, ltb, length, get_or, set}
use Rattle.rules.specs.Seen.{any, count}
use Rattle.frames.specs.Circle.{index_of, frame_at}
use Rattle.numbers.specs.Digits.{set_at, unset_at}
use Rattle.lists.specs.Lists.{rewrite, rewrite_from}
use Rattle.written.specs.Bits.{Written, written_of, place_of, tagged, bound_of, cut_of, window_of}

-- The bits of a group that stand.
unfoldable pub masked_of : (frames omf area : ℕ) → (history : List ℕ) → ℕ → ℕ
masked_of frames omf area history g = window_of frames omf area g 0 (bound_of history g)

-- A written bit set in the group of a frame: the group is masked by its bound first and stored with the current tag.
unfoldable pub regrouped : (frames omf frame bound tag g : ℕ) → ℕ
regrouped frames omf f bound tag g = tagged tag (set_at (window_of frames omf (f / 16) g 0 bound) (f % 16))

unfoldable pub with_written : Written → (tag line index : ℕ) → List ℕ
with_written w tag l i =
    let f = frame_at w.frames w.omf i in
    let at = place_of w.lines (f / 16) l in
    let g = get_or w.groups at 0 in
    set w.groups at (regrouped w.frames w.omf f (bound_of w.history g) tag g)

-- A line that is written in a frame already, with the current tag: a group whose upper 16 bits are just that tag stays as it is, any other is
-- masked and tagged as by a write.
unfoldable pub renewed : Written → (tag line frame : ℕ) → List ℕ
renewed w tag l f =
    cond (eqb (get_or w.groups (place_of w.lines (f / 16) l) 0 / 65536) tag) w.groups (with_written w tag l (index_of w.frames w.omf f))

-- Every used entry the deeper of itself and the target.
unfoldable pub entered : (tag kept : ℕ) → List ℕ → List ℕ
entered tag kept history = rewrite (tag + 1) (λ t e. min e kept) history

-- No entry less deep than a newer one.
abbrev pub Ordered : (tag : ℕ) → List ℕ → Type 0
Ordered tag history = (t : ℕ) → t < tag → get_or history t 0 ≤ get_or history (t + 1) 0

-- A rollback entered in the history: exactly so where the history is in order. Nothing is said of how.
pub record Entered (tag kept : ℕ) (before after : List ℕ) : Type 0 where
  pub exact : Ordered tag before → after ≡ entered tag kept before
  pub long : length after ≡ length before
  pub past : (t : ℕ) → tag < t → get_or after t 0 ≡ get_or before t 0

-- How it is done, on any contents (request 2.2): "the walk from newest to oldest is to stop at the first entry at least as deep as the
-- target (document 004, Figure 4), and at the bottom". What it leaves of a history with so many used entries:
unfoldable pub settled : (kept used : ℕ) → List ℕ → List ℕ
settled kept zero history = history
settled kept (suc t) history = cond (leb (get_or history t 0) kept) history (settled kept t (set history t kept))

-- "The walk tells how many entries it compared",
unfoldable pub compared : (kept used : ℕ) → List ℕ → ℕ
compared kept zero history = 0
compared kept (suc t) history = suc (cond (leb (get_or history t 0) kept) 0 (compared kept t history))

-- which in a history in order are "those less deep than the target,
abbrev pub less_deep : (kept used : ℕ) → List ℕ → ℕ
less_deep kept used history = count used (λ t. ltb kept (get_or history t 0))

-- and the one it stopped at, if any".
abbrev pub stops : (kept used : ℕ) → List ℕ → Bool
stops kept used history = any used (λ t. leb (get_or history t 0) kept)

-- For each tag the mask of the bits that stand with it, in an area whose first u frames have the indexes from s on, the others those from 0 on.
abbrev pub Masks : (s u : ℕ) (history masks : List ℕ) → Type 0
Masks s u history masks = (t : ℕ) → t < 256 → get_or masks t 0 ≡ cut_of 65535 s u 0 (get_or history t 0)

-- "When its tags run out the store sweeps stale bits and starts afresh": every group of a working area with the bits that stand, and tag 0,
abbrev pub swept_area : Written → (area : ℕ) → List ℕ
swept_area w area = rewrite_from (place_of w.lines area 0) w.lines (masked_of w.frames w.omf area w.history) w.groups

-- and every group so.
unfoldable pub swept : Written → List ℕ
swept w =
    rewrite (w.frames / 16 * w.lines) (λ at g. masked_of w.frames w.omf (at / w.lines) w.history g) w.groups

-- A group without the bit of a frame; all else of it stays.
unfoldable pub unset_in : (frame g : ℕ) → ℕ
unset_in f g = tagged (g / 65536) (unset_at (g % 65536) (f % 16))

-- A frame's bits in a block's 8 lines.
abbrev pub cleared_block : (lines frame block : ℕ) → List ℕ → List ℕ
cleared_block lines f block groups = rewrite_from (place_of lines (f / 16) (block * 8)) 8 (unset_in f) groups

-- A bound goes down with OMF, never below 0; that no rollback was is no bound.
unfoldable pub lower_bound : (k bound : ℕ) → ℕ
lower_bound k e = cond (eqb e 65535) e (e - k)

unfoldable pub lowered : (k : ℕ) → List ℕ → List ℕ
lowered k history = rewrite 256 (λ t e. lower_bound k e) history

-- A rollback takes the next tag; past the last one the tags start afresh.
unfoldable pub next_tag : ℕ → ℕ
next_tag tag = cond (ltb tag 255) (tag + 1) 0

-- What a rollback leaves: its target entered in the history, the next tag with no rollback since, and at the last tag all groups swept.
pub record RolledBack (w : Written) (tag kept : ℕ) (groups history : List ℕ) (next : ℕ) : Type 0 where
  pub entry : List ℕ
  pub enters : Entered tag kept w.history entry
  pub next_is : next ≡ next_tag tag
  pub groups_is : groups ≡ cond (ltb tag 255) w.groups (swept (written_of w.lines w.frames w.omf w.groups entry))
  pub history_is : history ≡ set entry next 65535

-- What a window of a group asks.
pub record AsksWindow (frames omf area from end : ℕ) : Type 0 where
  pub omf_below : omf < frames
  pub area_below : area * 16 < frames
  pub frames_few : frames ≤ 4096
  pub from_few : from ≤ 65535
  pub end_few : end ≤ 65535

-- RESET: "no written bits".
unfoldable pub blanked : (lines frames : ℕ) → List ℕ → List ℕ
blanked lines frames groups = rewrite (frames / 16 * lines) (λ _ g. 0) groups

-- What it asks.
pub record AsksReset (lines frames groups_long history_long : ℕ) : Type 0 where
  pub lines_few : lines ≤ 4096
  pub frames_few : frames ≤ 4096
  pub groups_enough : frames / 16 * lines ≤ groups_long
  pub history_some : 0 < history_long
