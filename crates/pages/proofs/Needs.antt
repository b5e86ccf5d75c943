-- Places and lines: a place is needed just if one of its lines has an effective bit. Assumes nothing.
use mathlib.Core.Path.{◌≡◌, refl, ◌∙◌, ap, ap₂}
use mathlib.Core.Bool.{Bool, true, false, ◌&&◌}
use Prim.Native.Nat.{ℕ, ◌+◌, ◌*◌, ◌/◌, ◌%◌, ◌≤◌, ◌<◌}
use native.Mathlib.Nat.{mul-le-mul}
use native.Mathlib.Omega.{arith}
use borrow.Author.Tests.{ltb-true, lt-ltb}
use lib.Dec.{ltb}
use Rattle.rules.specs.Seen.{needs}
use Rattle.rules.proofs.Count.{any_found, any-true}
use Rattle.rules.proofs.Tests.{both_true}
use Rattle.frames.specs.Circle.{frame_at, index_of}
use Rattle.frames.proofs.Circle.{index-frame}
use Rattle.written.specs.Bits.{Written, effective}
use Rattle.pages.specs.Table.{blocks_of, place_at, needed_at}

-- the frame and the block of a place
pub place-frame : (f b : ℕ) → b < 512 → place_at f b / 512 ≡ f
place-frame f b c = omega arith

pub place-block : (f b : ℕ) → b < 512 → place_at f b % 512 ≡ b
place-block f b c = omega arith

-- the entries of the table are few
pub entries-few : (lines frames : ℕ) → lines ≤ 4096 → frames ≤ 4096 → frames * (lines / 8) ≤ 2097152
entries-few lines frames a b = mul-le-mul {n₁ = frames} {m₁ = lines / 8} {n₂ = 4096} {m₂ = 512} b (omega arith)

-- a block of lines has a written line, and a written line's block is needed
needs-line : (row : ℕ → Bool) (b : ℕ) → needs row b ≡ true → (l : ℕ) × (l / 8 ≡ b) × (row l ≡ true)
unfolding needs
needs-line row b e =
    let h = any_found 8 (λ i. row (b * 8 + i)) e in
    (b * 8 + h.0, omega (arith, h.1), h.2)

line-needs : (row : ℕ → Bool) (b l : ℕ) → l / 8 ≡ b → row l ≡ true → needs row b ≡ true
unfolding needs
line-needs row b l d e = any-true 8 (λ i. row (b * 8 + i)) (l % 8) (omega arith) (ap row (whole b l d) ∙ e)
  where
    whole : (b l : ℕ) → l / 8 ≡ b → b * 8 + l % 8 ≡ l
    whole b l d = omega arith

module _ (w : Written) where
  -- a needed place's block is one of the lines'
  pub needed-block : (x : ℕ) → needed_at w x ≡ true → x % 512 < blocks_of w
  unfolding needed_at
  needed-block x e =
      ltb-true (x % 512) (blocks_of w) (both_true (ltb (x % 512) (blocks_of w)) (needs (effective w (index_of w.frames w.omf (x / 512))) (x % 512)) e).0

  -- A needed place has a written line, and a written line's place is needed.
  pub needed-line : (x : ℕ) → needed_at w x ≡ true
      → (l : ℕ) × (l < w.lines) × (l / 8 ≡ x % 512) × (effective w (index_of w.frames w.omf (x / 512)) l ≡ true)
  unfolding needed_at
  needed-line x e =
      let t = both_true (ltb (x % 512) (blocks_of w)) (needs (effective w (index_of w.frames w.omf (x / 512))) (x % 512)) e in
      let h = needs-line (effective w (index_of w.frames w.omf (x / 512))) (x % 512) t.1 in
      (h.0, omega (arith, h.1, needed-block x e), h.1, h.2)

  -- where the place is one
  needed-is : (x : ℕ) → x % 512 < blocks_of w → needed_at w x ≡ needs (effective w (index_of w.frames w.omf (x / 512))) (x % 512)
  unfolding needed_at
  needed-is x b =
      ap (λ (t : Bool). t && needs (effective w (index_of w.frames w.omf (x / 512))) (x % 512)) (lt-ltb (x % 512) (blocks_of w) b)

  pub line-needed : (x l : ℕ) → x % 512 < blocks_of w → l / 8 ≡ x % 512 → effective w (index_of w.frames w.omf (x / 512)) l ≡ true → needed_at w x ≡ true
  line-needed x l b d e = needed-is x b ∙ line-needs (effective w (index_of w.frames w.omf (x / 512))) (x % 512) l d e

  -- the same by frame and block,
  pub needed-place : (f b : ℕ) → w.lines ≤ 4096 → b < blocks_of w → needed_at w (place_at f b) ≡ needs (effective w (index_of w.frames w.omf f)) b
  needed-place f b few c =
      let wide : b < 512 = omega arith in
      needed-is (place_at f b) (omega (arith, place-block f b wide))
      ∙ ap₂ (λ (x y : ℕ). needs (effective w (index_of w.frames w.omf x)) y) (place-frame f b wide) (place-block f b wide)

  -- and past the blocks there is none.
  pub place-past : (f b : ℕ) → blocks_of w ≤ b → b < 512 → needed_at w (place_at f b) ≡ false
  place-past f b h c = go (needed_at w (place_at f b)) refl
    where
      go : (t : Bool) → needed_at w (place_at f b) ≡ t → t ≡ false
      go true e = absurd (omega (arith, needed-block (place_at f b) e))
      go false e = refl

  -- The place of a line with an effective bit is needed.
  pub effective-needed : (i l : ℕ) → w.lines ≤ 4096 → w.omf < w.frames → i < w.frames → l / 8 < blocks_of w → effective w i l ≡ true
      → needed_at w (place_at (frame_at w.frames w.omf i) (l / 8)) ≡ true
  effective-needed i l few h b c e =
      needed-place (frame_at w.frames w.omf i) (l / 8) few c
      ∙ line-needs (effective w (index_of w.frames w.omf (frame_at w.frames w.omf i))) (l / 8) l refl (ap (λ (k : ℕ). effective w k l) (index-frame w.frames w.omf h i b) ∙ e)
