-- Blocks without a bit of a frame. Assumes nothing.
use mathlib.Core.Path.{◌≡◌, refl, sym, ◌∙◌, ap, ap₂}
use mathlib.Core.Bool.{false}
use mathlib.Core.List.{List}
use Prim.Native.Nat.{ℕ, zero, suc, ◌+◌, ◌*◌, ◌/◌, ◌%◌, ◌^◌, ◌≤◌, ◌<◌}
use native.Mathlib.Nat.{add_assoc, mul-le-mul_right, suc-mul}
use native.Mathlib.Numerals.{add-one}
use native.Mathlib.Decide.{ℕ_discrete}
use native.Mathlib.Omega.{arith}
use lib.ListN.{length, get_or}
use Rattle.rules.specs.Seen.{needs}
use Rattle.rules.proofs.Count.{any_none}
use Rattle.frames.specs.Circle.{index_of, frame_at}
use Rattle.numbers.specs.Digits.{digit}
use Rattle.frames.proofs.Circle.{index_below, frame-index}
use Rattle.numbers.proofs.Digits.{bit-none}
use Rattle.written.specs.Bits.{Written, AsksBlock, AsksSet, Near, place_of, effective, sum_from, set_in}
use Rattle.written.proofs.Areas.{area_below}
use Rattle.written.proofs.Runs.{standing-none}

-- Neighbouring groups, one after the other: the sum of a loop over so many at its n-th turn.
pub record Added (f : ℕ → ℕ) (groups : List ℕ) (at count n sum : ℕ) : Type 0 where
  pub few : n ≤ count
  pub small : sum ≤ n * 65535
  pub same : sum ≡ sum_from f groups at n

module _ (f : ℕ → ℕ) (groups : List ℕ) (at : ℕ) where
  pub added-start : (count : ℕ) → Added f groups at count 0 0
  unfolding sum_from
  added-start count = record { few = omega arith; small = omega arith; same = refl }

  added_more : (count n sum v : ℕ) → Added f groups at count n sum → n < count → v ≤ 65535 → v ≡ f (get_or groups (at + n) 0)
      → Added f groups at count (n + 1) (sum + v)
  unfolding sum_from
  added_more count n sum v h b c e =
      record {
        few = omega arith;
        small = omega (arith, h.small);
        same = ap₂ (λ (x y : ℕ). x + y) h.same e ∙ ap (sum_from f groups at) (sym (add-one n));
      }

  pub added-end : (count n sum : ℕ) → Added f groups at count n sum → count ≤ n → sum ≡ sum_from f groups at count
  added-end count n sum h b =
      let e : n ≡ count = omega (arith, h.few) in
      h.same ∙ ap (sum_from f groups at) e

  -- a sum of 0 is one of zeros
  sum-none : (n m : ℕ) → m < n → sum_from f groups at n ≡ 0 → f (get_or groups (at + m) 0) ≡ 0
  unfolding sum_from
  sum-none zero m h e = absurd (omega arith)
  sum-none (suc n) m h e = go (ℕ_discrete m n) (sum-none n m)
    where
      go : Dec (m ≡ n) → (m < n → sum_from f groups at n ≡ 0 → f (get_or groups (at + m) 0) ≡ 0) → f (get_or groups (at + m) 0) ≡ 0
      go (yes q) ih = ap (λ (x : ℕ). f (get_or groups (at + x) 0)) q ∙ omega arith
      go (no d) ih = ih (omega arith) (omega arith)

-- the groups of a block's lines
pub set-near : (lines f block long now n : ℕ) → AsksSet lines f block long → now ≡ long → n < 8
    → Near lines (f / 16) (block * 8 + n) × (place_of lines (f / 16) (block * 8 + n) < now)
set-near lines f block long now n a e b = (
  record { lines_few = a.near.lines_few; area_few = a.near.area_few; line_few = omega (arith, a.near.line_few) },
  omega (arith, a.within),
)

-- one more of them, in the form in which the code has its number
pub digits_more : (groups : List ℕ) (lines f block here n sum g : ℕ) → Added (λ g. digit g (f % 16)) groups (place_of lines (f / 16) (block * 8)) 8 n sum → n < 8
    → (here ≡ 2 ^ (f % 16)) × (0 < here) → g ≡ get_or groups (place_of lines (f / 16) (block * 8 + n)) 0
    → Added (λ g. digit g (f % 16)) groups (place_of lines (f / 16) (block * 8)) 8 (n + 1) (sum + g / here % 2)
unfolding digit
digits_more groups lines f block here n sum g h b e d =
    let place : place_of lines (f / 16) (block * 8 + n) ≡ place_of lines (f / 16) (block * 8) + n = omega arith in
    added_more (λ g. digit g (f % 16)) groups (place_of lines (f / 16) (block * 8)) 8 n sum _ h b (omega arith)
    (ap₂ (λ (y x : ℕ). y / x % 2) (d ∙ ap (λ (i : ℕ). get_or groups i 0) place) e.0)

-- the groups of neighbouring lines of an area lie in the lent list
span-within : (lines frames z first count long : ℕ) → frames % 16 ≡ 0 → z < frames → first + count ≤ lines → frames / 16 * lines ≤ long
    → place_of lines (z / 16) first + count ≤ long
span-within lines frames z first count long by b c enough =
    omega (arith, mul-le-mul_right lines (area_below frames z by b), suc-mul (z / 16) lines)

-- A block's bits of one frame, counted,
pub set-end : (lines f block : ℕ) (groups : List ℕ) (n sum : ℕ)
    → Added (λ g. digit g (f % 16)) groups (place_of lines (f / 16) (block * 8)) 8 n sum → 8 ≤ n → sum ≡ set_in lines groups f block
unfolding set_in
set-end lines f block groups n sum h b = added-end (λ g. digit g (f % 16)) groups (place_of lines (f / 16) (block * 8)) 8 n sum h b

-- and what follows.
module _ (w : Written) (block f : ℕ) (a : AsksBlock w block w.frames × (f < w.frames)) where
  pub set-asks : AsksSet w.lines f block (length w.groups)
  set-asks =
      let q = a.0.lent in
      record {
        near = record { lines_few = q.lines_few; area_few = omega (arith, a.1, q.frames_few); line_few = omega (arith, a.0.block_below, q.lines_few) };
        within = span-within w.lines w.frames f (block * 8) 8 (length w.groups) q.frames_by a.1 a.0.block_below q.groups_long;
      }

  -- the window of the frame lies within the circle
  pub index-within : (i : ℕ) → i ≡ index_of w.frames w.omf f → AsksBlock w block (i + 1)
  index-within i e =
      record {
        lent = a.0.lent;
        block_below = a.0.block_below;
        end_within = omega (arith, index_below w.frames w.omf a.0.lent.omf_below f, e);
      }

  -- where none is set the block is not needed there
  pub none-set : (sum : ℕ) → sum ≡ set_in w.lines w.groups f block → sum ≡ 0 → false ≡ needs (effective w (index_of w.frames w.omf f)) block
  unfolding set_in needs effective
  none-set sum e none = sym (any_none 8 _ (λ n b. bare n b))
    where
      i : ℕ
      i = index_of w.frames w.omf f

      first : ℕ
      first = place_of w.lines (f / 16) (block * 8)

      same : frame_at w.frames w.omf i ≡ f
      same = frame-index w.frames w.omf a.0.lent.omf_below f a.1

      bare : (n : ℕ) → n < 8 → effective w i (block * 8 + n) ≡ false
      bare n b =
          let at : place_of w.lines (frame_at w.frames w.omf i / 16) (block * 8 + n) ≡ first + n =
          ap (λ (z : ℕ). place_of w.lines (z / 16) (block * 8 + n)) same ∙ sym (add_assoc (f / 16 * w.lines) (block * 8) n)
          in
          standing-none _ _ i _ (bit-none _ _
          (ap₂ (λ (x z : ℕ). digit (get_or w.groups x 0) (z % 16)) at same ∙ sum-none (λ g. digit g (f % 16)) w.groups first 8 n b (sym e ∙ none)))
