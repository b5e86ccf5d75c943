-- "Why a call is turned down": the refusals of each call as one chain, in document 01's order, with the numbers that requests add. 1, 2 and 3
-- are the session's.
-- "Each is given if its condition holds and no earlier one does, never otherwise."
use Rattle.std.specs.Prelude.{ℕ, ◌+◌, ◌-◌, ◌*◌, ◌%◌, ◌^◌, Bool, true, false, not, ◌&&◌, ◌||◌, leb, ltb, eqb, length}
use Rattle.rules.specs.Settings.{Settings, Pieces, within, enough, circle}
use Rattle.rules.specs.Line.{line_of, block_of}
use Rattle.rules.specs.Registers.{Registers, live_frames, state_fits}
use Rattle.rules.specs.Seen.{Seen}
use Rattle.rules.specs.Call.{Act, Call}
use Rattle.rules.specs.Call.Look.{LINE, LINE_REFUSAL, COUNTS}
use Rattle.rules.specs.Call.Change.{WRITE, MARK, ROLLBACK, ADVANCE}
use Rattle.rules.specs.Call.Act.{READ, LOOK, CHANGE}
use Rattle.rules.specs.Call.Call.{RESET, CHECK, ON, WRITE_BLOCK}

-- One link of a chain: refusal n unless the test holds, and what the rest of the chain says if it does.
unfoldable pub unless : Bool → ℕ → ℕ → ℕ
unless true n rest = rest
unless false n rest = n

-- The opposite of "The width is not 1, 2 or 4."
unfoldable pub is_width : ℕ → Bool
is_width w = eqb w 1 || eqb w 2 || eqb w 4

-- What the tests of a call look at, besides its arguments and what the storage lacks.
pub record Facts : Type 0 where
  -- the settings in the state, and whether the state is within its limits
  pub settings : Settings
  pub fits : Bool
  -- the lent lengths, in elements
  pub lengths : Pieces
  -- the live frames
  pub live : ℕ

-- The same by registers and lent lengths.
unfoldable pub facts_by : Registers → Pieces → Facts
facts_by r lengths = record { settings = r.settings; fits = state_fits r; lengths = lengths; live = live_frames r }

-- What only the storage can tell: whether it lacks what an act needs. 13: "WRITE's page in CMF is not needed yet and P pages are needed already."
unfoldable pub lacks : Settings → Seen → Act → Bool
lacks s v (READ w a) = false
lacks s v (LOOK q) = false
lacks s v (CHANGE (WRITE w a x)) = not (v.current (block_of (line_of a))) && leb s.pages v.pages
lacks s v (CHANGE MARK) = false
lacks s v (CHANGE (ROLLBACK k)) = false
lacks s v (CHANGE (ADVANCE k)) = false

-- 4 and 6, for the settings asked for: "L, F or P is outside its limits (RESET, sizing)."
unfoldable pub asked_refusal : Pieces → Settings → ℕ
asked_refusal lengths asked = unless (within asked) 4 (unless (enough asked lengths) 6 0)

-- 5 and 6, before the rest of a call's chain.
unfoldable pub state_refusal : Facts → ℕ → ℕ
state_refusal g rest = unless g.fits 5 (unless (enough g.settings g.lengths) 6 rest)

-- 7, 8 and 9: the width, "The address is not a multiple of the width", "The address plus the width passes 16 × L".
unfoldable pub place_refusal : Settings → (width address rest : ℕ) → ℕ
place_refusal s w a rest =
    unless (is_width w) 7 (unless (eqb (a % w) 0) 8 (unless (leb (a + w) (16 * s.lines)) 9 rest))

-- 7 to 10, before the rest of a WRITE's chain: "The value needs more bytes than the width."
unfoldable pub write_refusal : Settings → (width address value rest : ℕ) → ℕ
write_refusal s w a v rest = place_refusal s w a (unless (ltb v (256 ^ w)) 10 rest)

-- 9 for a line: "or the line number is not below L".
unfoldable pub line_refusal : Settings → ℕ → ℕ
line_refusal s l = unless (ltb l s.lines) 9 0

-- "k is 0 or more than the marked states." "Marked states number one less than the live frames."
unfoldable pub marked_refusal : (live k : ℕ) → ℕ
marked_refusal live k = unless (ltb 0 k && leb k (live - 1)) 11 0

-- An act's chain after 5 and 6, by whether the storage lacks what the act needs. 12: "MARK finds all F frames live."
unfoldable pub act_refusal : Facts → (lacking : Bool) → Act → ℕ
act_refusal g lacking (READ w a) = place_refusal g.settings w a 0
act_refusal g lacking (LOOK (LINE l)) = line_refusal g.settings l
act_refusal g lacking (LOOK (LINE_REFUSAL l)) = line_refusal g.settings l
act_refusal g lacking (LOOK COUNTS) = 0
act_refusal g lacking (CHANGE (WRITE w a x)) = write_refusal g.settings w a x (unless (not lacking) 13 0)
act_refusal g lacking (CHANGE MARK) = unless (ltb g.live (circle g.settings)) 12 0
act_refusal g lacking (CHANGE (ROLLBACK k)) = marked_refusal g.live k
act_refusal g lacking (CHANGE (ADVANCE k)) = marked_refusal g.live k

-- 14, of a block of writes: "the answer list is shorter than the write list, tested after 6" (request 2.1).
unfoldable pub list_refusal : (items room : ℕ) → ℕ
list_refusal items room = unless (leb items room) 14 0

-- The refusal of a call, or 0.
unfoldable pub refusal : Facts → (lacking : Act → Bool) → Call → ℕ
refusal g lacking (RESET asked) = asked_refusal g.lengths asked
refusal g lacking CHECK = state_refusal g 0
refusal g lacking (ON a) = state_refusal g (act_refusal g (lacking a) a)
refusal g lacking (WRITE_BLOCK items list) = state_refusal g (list_refusal (length items) (length list))
