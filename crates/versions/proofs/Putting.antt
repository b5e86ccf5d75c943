-- The page that a write goes to, and what is asked to put a version there. Assumes nothing.
use mathlib.Core.Path.{◌≡◌}
use mathlib.Core.List.{List}
use Prim.Native.Nat.{ℕ, ◌/◌, ◌<◌}
use native.Mathlib.Omega.{arith}
use lib.ListN.{length}
use Rattle.frames.specs.Circle.{frame_at}
use Rattle.frames.proofs.Circle.{frame_below}
use Rattle.written.specs.Bits.{Written}
use Rattle.pages.specs.Table.{AsksEntry}
use Rattle.versions.specs.Steps.{AsksPut}
use Rattle.versions.proofs.Finding.{entry-asks}

-- ---- a version put there
module _ (w : Written) (pages tag line index page : ℕ) (pool table owners : List ℕ) (asks : AsksPut w pages tag line index page pool table owners)
    (f : ℕ) (told : f ≡ frame_at w.frames w.omf index) where
  frame-within : f < w.frames
  frame-within = omega (arith, told, frame_below w.frames w.omf asks.asks.lent.omf_below index)

  pub put-claims : AsksEntry w.lines f (line / 8) (length table) × (page < length owners)
  put-claims = (
    entry-asks w.lines w.frames f line (length table) asks.asks.lines_by asks.asks.lent.lines_few asks.asks.lent.frames_few frame-within asks.line_below
        asks.asks.table_long,
    omega (arith, asks.page_below, asks.owners_long),
  )
