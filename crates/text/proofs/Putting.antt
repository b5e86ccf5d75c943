-- Text put into a buffer. Assumes nothing.
use mathlib.Core.Path.{◌≡◌, sym, ◌∙◌, ap, subst}
use mathlib.Core.Bool.{Bool, true, false, cond}
use mathlib.Core.List.{[], ◌∷◌, ◌++◌, append_assoc}
use Prim.Native.Nat.{ℕ, zero, suc, ◌+◌, ◌/◌, ◌%◌, ◌≤◌}
use native.Mathlib.Omega.{arith}
use lib.Dec.{ltb}
use lib.ListN.{length, take, drop, length-append}
use lib.Seq.{paste, paste-zero, length-paste, take-paste, drop-paste, take-length, drop-drop}
use Rattle.text.specs.Parts.{Text}
use Rattle.text.specs.Numbers.{digits_before, decimal}
use Rattle.text.specs.Output.{Puts}

-- What stands in the buffer up to the place behind the text.
pub puts-head : (before : Text) (at : ℕ) (text after : Text) (behind : ℕ) → at ≤ length before → Puts before at text after behind
    → take behind after ≡ take at before ++ text
puts-head before at text after behind h p =
    ap (λ (n : ℕ). take n after) p.ends
    ∙ (ap (take (at + length text)) p.bytes
    ∙ (take-paste before at text (length text) h (omega arith) ∙ ap (λ (xs : Text). take at before ++ xs) (take-length text)))

-- What stands in it from there on is as it was.
pub puts-rest : (before : Text) (at : ℕ) (text after : Text) (behind : ℕ) → at ≤ length before → Puts before at text after behind
    → drop behind after ≡ drop behind before
puts-rest before at text after behind h p =
    ap (drop behind) p.bytes
    ∙ (ap (λ (n : ℕ). drop n (paste before at text (length text))) p.ends
    ∙ (drop-paste before at text (length text) h (omega arith) ∙ ap (λ (n : ℕ). drop n before) (sym p.ends)))

pub puts-length : (before : Text) (at : ℕ) (text after : Text) (behind : ℕ) → at + length text ≤ length before → Puts before at text after behind
    → length after ≡ length before
puts-length before at text after behind h p = ap length p.bytes ∙ length-paste before at text (length text) h (omega arith)

pub puts-few : (before : Text) (at : ℕ) (text after : Text) (behind : ℕ) → at + length text ≤ length before → Puts before at text after behind → behind ≤ length after
puts-few before at text after behind h p = omega (arith, p.ends, puts-length before at text after behind h p)

-- No text changes nothing; one text after another is both.
pub puts_none : (before : Text) (at : ℕ) → Puts before at [] before at
puts_none before at = record { ends = omega arith; bytes = paste-zero before at [] }

pub puts_then : {before x middle y after : Text} {at seam behind : ℕ} → at ≤ length before → Puts before at x middle seam → Puts middle seam y after behind
    → Puts before at (x ++ y) after behind
puts_then {before} {x} {middle} {y} {after} {at} {seam} {behind} h p q =
    record {
      ends = omega (arith, length-append x y);
      bytes = q.bytes ∙ simp (puts-head before at x middle seam h p, rest, take-length, append_assoc);
    }
  where
    far : seam + length y ≡ at + length (x ++ y)
    far = omega (arith, length-append x y)

    rest : drop (seam + length y) middle ≡ drop (at + length (x ++ y)) before
    rest =
        sym (drop-drop (length y) seam middle)
        ∙ (ap (drop (length y)) (puts-rest before at x middle seam h p)
        ∙ (drop-drop (length y) seam before ∙ ap (λ (n : ℕ). drop n before) far))

-- A number has at most 20 digits.
digits-few : (most n : ℕ) (rest : Text) → length (digits_before most n rest) ≤ most + length rest
unfolding digits_before
digits-few zero n rest = omega arith
digits-few (suc most) n rest = go (ltb n 10) (digits-few most (n / 10) ((48 + n % 10) ∷ rest))
  where
    go : (t : Bool) → length (digits_before most (n / 10) ((48 + n % 10) ∷ rest)) ≤ most + length ((48 + n % 10) ∷ rest)
        → length (cond t ((48 + n) ∷ rest) (digits_before most (n / 10) ((48 + n % 10) ∷ rest))) ≤ suc most + length rest
    go true ih = omega arith
    go false ih = omega (arith, ih)

pub decimal-few : (n : ℕ) → length (decimal n) ≤ 20
unfolding decimal
decimal-few n = digits-few 20 n []

-- in the form in which the digits come
pub decimal-room : (digits : Text) (n at long : ℕ) → digits ≡ decimal n → at + 20 ≤ long → at + length digits ≤ long
decimal-room digits n at long e h = omega (arith, ap length e, decimal-few n)

pub puts-same : (before : Text) (at : ℕ) (text other after : Text) (behind : ℕ) → text ≡ other → Puts before at text after behind → Puts before at other after behind
puts-same before at text other after behind e p = subst (λ (t : Text). Puts before at t after behind) e p
