-- The written bits' share of well-formedness.
use Rattle.std.specs.Prelude.{ℕ, ◌*◌, ◌/◌, ◌≤◌, ◌<◌, ◌≡◌, true, false, List, get_or}
use Rattle.numbers.specs.Digits.{bit}
use Rattle.written.specs.Bits.{Written, AsksWritten, tag_of, effective}
use Rattle.written.specs.Steps.{Ordered}

-- Every group with a bit set has a tag that is in use.
abbrev pub TagsKnown : (count tag : ℕ) → List ℕ → Type 0
TagsKnown count tag groups =
    (at q : ℕ) → at < count → q < 16 → bit (get_or groups at 0) q ≡ true → tag_of (get_or groups at 0) ≤ tag

-- Only live frames have effective bits.
abbrev pub OnlyLive : Written → (live : ℕ) → Type 0
OnlyLive w live = (k l : ℕ) → live ≤ k → k < w.frames → l < w.lines → effective w k l ≡ false

pub record WellBits (w : Written) (tag live : ℕ) : Type 0 where
  -- the numbers are within their limits and the lists long enough: a group or an entry could lie outside them
  pub lent : AsksWritten w
  -- tags have 8 bits: a larger one would be stored as another
  pub tag_below : tag < 256
  -- a group with a bit set has no tag above the current one: the next tag would bring the bit to life
  pub tags : TagsKnown (w.frames / 16 * w.lines) tag w.groups
  -- the current tag has no rollback since: a fresh write would not be effective
  pub open_tag : get_or w.history tag 0 ≡ 65535
  -- no entry is less deep than a newer one, which all storage reached from RESET meets: the walk that enters a rollback would stop too soon
  pub ordered : Ordered tag w.history
  -- effective bits are in live frames only: MARK would open a frame with a bit
  pub only_live : OnlyLive w live
