-- A width that divides the line, and a write and a read of that width at an address. Assumes nothing.
use mathlib.Core.Path.{◌≡◌, refl, ◌∙◌, ap}
use mathlib.Core.Logic.{◌⊎◌, inl, inr}
use mathlib.Core.Bool.{Bool, true, false, cond, ◌||◌}
use Prim.Native.Nat.{ℕ, ◌+◌, ◌/◌, ◌%◌, ◌^◌, ◌≤◌, ◌<◌, ◌∣◌}
use native.Mathlib.Nat.{mod-lt, mod-mod_of_dvd, div-add-mod', div-lt_iff_lt-mul, mul-le-mul_right, suc-mul, dvd-mul_left, one-dvd, div-mul_cancel}
use native.Mathlib.Omega.{arith}
use borrow.Author.Tests.{eqb-true, eq-eqb}
use lib.Dec.{eqb}
use lib.ListN.{length, get_or}
use Rattle.rules.specs.Settings.{Settings}
use Rattle.rules.specs.Line.{Line, Memory, IsLine, edit, value_at, line_of, offset_of}
use Rattle.rules.specs.Refusal.{is_width}
use Rattle.rules.specs.Call.{Write}
use Rattle.rules.specs.Plain.{play}
use Rattle.rules.proofs.Chain.{Placed}
use Rattle.rules.proofs.Line.{read-edit, edit-before, edit-after, line-edit}

pub record Width (w : ℕ) : Type 0 where
  pub some : 0 < w
  pub divides : w ∣ 16

-- the three widths
pub widths : (w : ℕ) → is_width w ≡ true → Width w
unfolding is_width
widths w h = go (eqb w 1) (eqb w 2) (eqb w 4) refl refl refl h
  where
    go : (a b c : Bool) → eqb w 1 ≡ a → eqb w 2 ≡ b → eqb w 4 ≡ c → (a || b || c) ≡ true → Width w
    go true b c p q r h = rw (eqb-true w 1 p) (record { some = omega arith; divides = one-dvd 16 })
    go false true c p q r h = rw (eqb-true w 2 q) (record { some = omega arith; divides = dvd-mul_left 2 8 })
    go false false true p q r h = rw (eqb-true w 4 r) (record { some = omega arith; divides = dvd-mul_left 4 4 })
    go false false false p q r h = absurd (mathlib.Core.Bool.false≢true h)

-- what is aligned to its width lies in one line
pub in-line : {w : ℕ} → Width w → (a : ℕ) → a % w ≡ 0 → offset_of a + w ≤ 16
in-line {w} h a e =
    let r : ℕ = a % 16 in
    let z : r % w ≡ 0 = mod-mod_of_dvd w a h.divides ∙ e in
    let q : ℕ = r / w in
    let below : q < 16 / w = (div-lt_iff_lt-mul h.some).1 (rw (div-mul_cancel w h.divides) (mod-lt a (omega arith))) in
    omega (arith, div-add-mod' r w, mul-le-mul_right w below, suc-mul q w, div-mul_cancel w h.divides)

pub line_below : {s : Settings} {w a : ℕ} → Placed s w a → line_of a < s.lines
line_below {s} {w} {a} p = omega (arith, p.inside, (widths w p.width).some)

-- the byte at an address of a memory
abbrev pub byte_at : Memory → ℕ → ℕ
byte_at m b = get_or (m (line_of b)) (offset_of b) 0

module _ (w a v : ℕ) (h : Width w) (aligned : a % w ≡ 0) where
  abbrev pub the-write : Write
  the-write = record { width = w; address = a; value = v }

  room : (x : Line) → IsLine x → offset_of a + w ≤ length x
  room x line = omega (arith, in-line h a aligned, line.long)

  module _ (m : Memory) (lines : (l : ℕ) → IsLine (m l)) where
    -- reading back a write of that width gives the value
    pub written_read : v < 256 ^ w → value_at w (offset_of a) (play the-write m (line_of a)) ≡ v
    unfolding play
    written_read small =
        ap (λ (b : Bool). value_at w (offset_of a) (cond b (edit w (offset_of a) v (m (line_of a))) (m (line_of a))))
        (eq-eqb (line_of a) (line_of a) refl)
        ∙ read-edit w (offset_of a) v (m (line_of a)) (room (m (line_of a)) (lines (line_of a))) small

    -- a write changes no byte outside its own
    pub written-else : (b : ℕ) → (b < a) ⊎ (a + w ≤ b) → byte_at (play the-write m) b ≡ byte_at m b
    unfolding play
    written-else b out = go (eqb (line_of a) (line_of b)) refl out
      where
        go : (t : Bool) → eqb (line_of a) (line_of b) ≡ t → (b < a) ⊎ (a + w ≤ b)
            → get_or (cond t (edit w (offset_of a) v (m (line_of b))) (m (line_of b))) (offset_of b) 0 ≡ byte_at m b
        go true e (inl before) =
            edit-before w (offset_of a) v (m (line_of b)) (room (m (line_of b)) (lines (line_of b))) (offset_of b)
            (omega (arith, eqb-true (line_of a) (line_of b) e))
        go true e (inr after) =
            edit-after w (offset_of a) v (m (line_of b)) (room (m (line_of b)) (lines (line_of b))) (offset_of b)
            (omega (arith, eqb-true (line_of a) (line_of b) e))
        go false e o = refl

    -- lines stay lines
    pub written-lines : (l : ℕ) → IsLine (play the-write m l)
    unfolding play
    written-lines l = go (eqb (line_of a) l)
      where
        go : (t : Bool) → IsLine (cond t (edit w (offset_of a) v (m l)) (m l))
        go true = line-edit w (offset_of a) v (m l) (room (m l) (lines l)) (lines l)
        go false = lines l
