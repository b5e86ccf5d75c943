-- Settings within their limits as linear facts, the two ways to the test, and the bound on lent memory. Assumes nothing.
use mathlib.Core.Path.{◌≡◌, refl, sym, ◌∙◌}
use mathlib.Core.Bool.{Bool, true, false, not, cond}
use Prim.Native.Nat.{ℕ, ◌*◌, ◌/◌, ◌%◌, ◌≤◌}
use native.Mathlib.Nat.{mul-le-mul, mul-le-mul_left, mul-le-mul_right, mul_comm, mul_assoc, mul_right_comm, div-mul-le_self}
use native.Mathlib.Omega.{arith}
use borrow.Author.Tests.{leb-true, eqb-true, le-leb, eq-eqb, not-true, not-false}
use Rattle.rules.specs.Settings.{Settings, within, elements, bytes}
use Rattle.rules.specs.Sizing.{settings_of, sizes_of, no_sizes, sizing, Bounded}
use Rattle.rules.proofs.Tests.{both_true}

pub record Good (s : Settings) : Type 0 where
  pub lines_from : 8 ≤ s.lines
  pub lines_to : s.lines ≤ 4096
  pub lines_by : s.lines % 8 ≡ 0
  pub frames_from : 16 ≤ s.frames
  pub frames_to : s.frames ≤ 256
  pub frames_by : s.frames % 16 ≡ 0
  pub pages_from : 1 ≤ s.pages
  pub pages_to : s.pages ≤ 4096

pub within-good : (s : Settings) → within s ≡ true → Good s
unfolding within
within-good s e =
    let all = both_true _ _ e in
    let some = both_true _ _ all.0 in
    let l = both_true _ _ some.0 in
    let l' = both_true _ _ l.0 in
    let f = both_true _ _ some.1 in
    let f' = both_true _ _ f.0 in
    let p = both_true _ _ all.1 in
    record {
      lines_from = leb-true 8 s.lines l'.0;
      lines_to = leb-true s.lines 4096 l'.1;
      lines_by = eqb-true (s.lines % 8) 0 l.1;
      frames_from = leb-true 16 s.frames f'.0;
      frames_to = leb-true s.frames 256 f'.1;
      frames_by = eqb-true (s.frames % 16) 0 f.1;
      pages_from = leb-true 1 s.pages p.0;
      pages_to = leb-true s.pages 4096 p.1;
    }

pub good-within : (s : Settings) → Good s → within s ≡ true
unfolding within
good-within s g =
    simp (
      le-leb 8 s.lines g.lines_from,
      le-leb s.lines 4096 g.lines_to,
      eq-eqb (s.lines % 8) 0 g.lines_by,
      le-leb 16 s.frames g.frames_from,
      le-leb s.frames 256 g.frames_to,
      eq-eqb (s.frames % 16) 0 g.frames_by,
      le-leb 1 s.pages g.pages_from,
      le-leb s.pages 4096 g.pages_to,
    )

pub not_within : (s : Settings) → (Good s → ⊥) → within s ≡ false
not_within s k = go (within s) refl
  where
    go : (b : Bool) → within s ≡ b → b ≡ false
    go true e = absurd (k (within-good s e))
    go false e = refl

-- what is counted by 16 frames or by 8 lines takes no more than its part of L × F
groups-bound : (l f : ℕ) → f / 16 * l * 16 ≤ l * f
groups-bound l f = rw (mul_right_comm (f / 16) l 16, mul_comm l f) (mul-le-mul_right l (div-mul-le_self f 16))

table-bound : (l f : ℕ) → f * (l / 8) * 8 ≤ l * f
table-bound l f = rw (mul_assoc f (l / 8) 8, mul_comm l f) (mul-le-mul_left f (div-mul-le_self l 8))

-- The sizing call's answer keeps the bound on lent memory, whatever the settings asked for, refused ones included.
pub sizing-bound : (s : Settings) → Bounded s (sizing s)
unfolding sizing sizes_of no_sizes bytes elements
sizing-bound s = go (within s) refl
  where
    go : (b : Bool) → within s ≡ b → Bounded s (cond b (sizes_of s) no_sizes)
    go true e =
        omega (
          arith,
          groups-bound s.lines s.frames,
          table-bound s.lines s.frames,
          mul-le-mul_left s.lines (within-good s e).frames_from,
        )
    go false e = omega arith

-- the products of the sizing call stay small
pub record Small (l f : ℕ) : Type 0 where
  pub groups : f / 16 * l ≤ 65536
  pub table : f * (l / 8) ≤ 131072

small : (s : Settings) → Good s → Small s.lines s.frames
small s g =
    record {
      groups = mul-le-mul {n₁ = s.frames / 16} {m₁ = s.lines} {n₂ = 16} {m₂ = 4096} (omega arith) (omega arith);
      table = mul-le-mul {n₁ = s.frames} {m₁ = s.lines / 8} {n₂ = 256} {m₂ = 512} (omega arith) (omega arith);
    }

-- The sizing call's branches, in the form in which its code has the test: within the limits, the products are small
pub sizing-small : (l f p : ℕ) (b : Bool) → b ≡ within (settings_of l f p) → not b ≡ false → Small l f
sizing-small l f p b e h = small (settings_of l f p) (within-good (settings_of l f p) (sym e ∙ not-false b h))

-- and the sizes are given;
pub sizing-given : (l f p : ℕ) (b : Bool) → b ≡ within (settings_of l f p) → not b ≡ false → sizes_of (settings_of l f p) ≡ sizing (settings_of l f p)
unfolding sizing
sizing-given l f p b e h = go (within (settings_of l f p)) (sym e ∙ not-false b h)
  where
    go : (x : Bool) → x ≡ true → sizes_of (settings_of l f p) ≡ cond x (sizes_of (settings_of l f p)) no_sizes
    go true q = refl
    go false q = absurd (mathlib.Core.Bool.false≢true q)

-- outside them, none is.
pub sizing-refused : (s : Settings) (b : Bool) → b ≡ within s → not b ≡ true → no_sizes ≡ sizing s
unfolding sizing
sizing-refused s b e h = go (within s) (sym e ∙ not-true b h)
  where
    go : (x : Bool) → x ≡ false → no_sizes ≡ cond x (sizes_of s) no_sizes
    go true q = absurd (mathlib.Core.Bool.true≢false q)
    go false q = refl
