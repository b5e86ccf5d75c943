-- Frames of one working area, by their indexes from OMF. Assumes nothing.
use mathlib.Core.Path.{◌≡◌}
use mathlib.Core.Logic.{⊎_elim}
use mathlib.Core.List.{List}
use Prim.Native.Nat.{ℕ, ◌+◌, ◌-◌, ◌*◌, ◌/◌, ◌%◌, ◌≤◌, ◌<◌}
use native.Mathlib.Nat.{mul-le-mul_right, suc-mul}
use native.Mathlib.Omega.{arith}
use lib.ListN.{length}
use Rattle.frames.specs.Circle.{frame_at}
use Rattle.frames.proofs.Circle.{frame_below, frame-cases}
use Rattle.written.specs.Bits.{Written, written_of, AsksWritten, place_of, Asks, Near}

-- a step of d places down within the area
module _ (n omf : ℕ) (h : omf < n) where
  pub frame-down : (i k : ℕ) → i < n → k ≤ i → i - k ≤ frame_at n omf i % 16 → frame_at n omf k + (i - k) ≡ frame_at n omf i
  frame-down i k b c d =
      ⊎_elim
      (λ e. ⊎_elim (λ g. omega (arith, e, g)) (λ g. absurd (omega (arith, e, g, frame_below n omf h i))) (frame-cases n omf h k (omega arith)))
      (λ e. ⊎_elim (λ g. absurd (omega (arith, e, g, frame_below n omf h k))) (λ g. omega (arith, e, g)) (frame-cases n omf h k (omega arith)))
      (frame-cases n omf h i b)

  pub frame-up : n % 16 ≡ 0 → (i k : ℕ) → k < n → i ≤ k → k - i < 16 - frame_at n omf i % 16 → frame_at n omf k ≡ frame_at n omf i + (k - i)
  frame-up by i k b c d =
      ⊎_elim
      (λ e. ⊎_elim (λ g. omega (arith, e, g)) (λ g. absurd (omega (arith, e, g, frame_below n omf h i))) (frame-cases n omf h k b))
      (λ e. ⊎_elim (λ g. absurd (omega (arith, e, g, frame_below n omf h k))) (λ g. omega (arith, e, g)) (frame-cases n omf h k b))
      (frame-cases n omf h i (omega arith))

-- a place d below a place of an area, or above it, in numbers
pub down-area : (f g d : ℕ) → g + d ≡ f → d ≤ f % 16 → g / 16 ≡ f / 16
down-area f g d e h = omega arith

pub down-place : (f g d : ℕ) → g + d ≡ f → d ≤ f % 16 → g % 16 + d ≡ f % 16
down-place f g d e h = omega arith

pub up-area : (f g d : ℕ) → g ≡ f + d → d < 16 - f % 16 → g / 16 ≡ f / 16
up-area f g d e h = omega arith

pub up-place : (f g d : ℕ) → g ≡ f + d → d < 16 - f % 16 → g % 16 ≡ f % 16 + d
up-place f g d e h = omega arith

-- the place of a group of an area lies in the lent list
pub place-below : (lines areas area line : ℕ) → area < areas → line < lines → area * lines + line < areas * lines
place-below lines areas area line a b = omega (arith, mul-le-mul_right lines a, suc-mul area lines)

pub area_below : (n f : ℕ) → n % 16 ≡ 0 → f < n → f / 16 < n / 16
area_below n f by b = omega arith

-- what a reader of one group asks
pub asks-near : (w : Written) (l i f : ℕ) → Asks w l i → f ≡ frame_at w.frames w.omf i
    → Near w.lines (f / 16) l × (place_of w.lines (f / 16) l < lib.ListN.length w.groups)
asks-near w l i f a e =
    let q = a.lent in
    let b : f < w.frames = omega (arith, e, frame_below w.frames w.omf q.omf_below i) in (
      record {
        lines_few = q.lines_few;
        area_few = omega (arith, q.frames_few);
        line_few = omega (arith, a.line_below, q.lines_few);
      },
      omega (
        arith,
        q.groups_long,
        place-below w.lines (w.frames / 16) (f / 16) l (area_below w.frames f q.frames_by b) a.line_below,
      ),
    )

-- Lent pieces of the same lengths, with OMF on the circle, are lent alike.
pub lent-kept : (w : Written) (omf : ℕ) (groups history : List ℕ) → AsksWritten w → omf < w.frames → length groups ≡ length w.groups
    → length history ≡ length w.history → AsksWritten (written_of w.lines w.frames omf groups history)
lent-kept w omf groups history q below g h =
    record {
      lines_some = q.lines_some;
      lines_few = q.lines_few;
      frames_by = q.frames_by;
      frames_few = q.frames_few;
      omf_below = below;
      groups_long = omega (arith, q.groups_long);
      history_long = omega (arith, q.history_long);
    }
