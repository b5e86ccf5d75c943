-- A line that comes in pieces. Assumes nothing.
use mathlib.Core.Path.{◌≡◌, sym, ◌∙◌, ap, ap₂}
use mathlib.Core.List.{[], ◌∷◌, ◌++◌}
use Prim.Native.Nat.{ℕ, suc, ◌+◌, ◌-◌, ◌≤◌, ◌<◌, min}
use native.Mathlib.Decide.{dec_lt}
use native.Mathlib.Omega.{arith}
use lib.ListN.{length, set, take, length-set, length-append}
use lib.Seq.{take_all, take-suc, take-append-le, take-append-add, take-set-le, get_or-set_same}
use Rattle.text.specs.Parts.{Text}
use Rattle.text.specs.declared.Reader.{Reader}
use Rattle.text.specs.Lines.{looked, Extends, Ended}

abbrev pub reader_of : Text → ℕ → Reader
reader_of kept count = record { kept = kept; count = count }

longer : (line : Text) (b : ℕ) → length (line ++ (b ∷ [])) ≡ length line + 1
longer line b = length-append line (b ∷ [])

one : (k : ℕ) → k + 1 ≡ suc k
one k = omega arith

-- One byte put behind those kept.
put-behind : (kept : Text) (count b : ℕ) (text : Text) → count < length kept → take count kept ≡ text → take (count + 1) (set kept count b) ≡ text ++ (b ∷ [])
put-behind kept count b text h e =
    ap (λ (n : ℕ). take n (set kept count b)) (one count)
    ∙ (take-suc (set kept count b) count 0 (omega (arith, length-set kept count b))
    ∙ ap₂ (λ (xs : Text) (y : ℕ). xs ++ (y ∷ [])) (take-set-le count kept count b (omega arith) ∙ e) (get_or-set_same kept count b 0 h))

-- A reader that is full keeps its bytes,
pub extends-full : (r : Reader) (more : Text) → 81 ≤ r.count → Extends r more r
extends-full r more h line q =
    record {
      counted = omega (arith, q.counted, length-append line more);
      bytes = q.bytes ∙ sym (take-append-le 81 line more (omega (arith, q.counted)));
    }

take-few : (xs : Text) (n : ℕ) → take (min (length xs) n) xs ≡ take n xs
take-few xs n = elim (dec_lt n (length xs)) as (λ _. take (min (length xs) n) xs ≡ take n xs) [
  | yes h ↦ ap (λ (m : ℕ). take m xs) (omega arith)
  | no h ↦ take_all (min (length xs) n) xs (omega arith) ∙ sym (take_all n xs (omega arith))
]

room : (count long : ℕ) → long ≡ count → count < 81 → 81 ≡ long + (81 - count)
room count long e h = omega arith

-- and one that is not takes as many more as there is room for: n is how many, and `kept` is the buffer with them.
pub extends-some : (r : Reader) (more kept : Text) (n : ℕ) → r.count < 81 → n ≡ min (length more) (81 - r.count) → take (r.count + n) kept ≡ take r.count r.kept ++ take n more
    → Extends r more (reader_of kept (r.count + n))
extends-some r more kept n h k e line q =
    let all : take 81 line ≡ line = take_all 81 line (omega (arith, q.counted)) in
    let here : length line ≡ r.count = omega (arith, q.counted) in
    record {
      counted = omega (arith, k, here, length-append line more);
      bytes =
          e
          ∙ (ap₂ (λ (xs ys : Text). xs ++ ys) (q.bytes ∙ all) (ap (λ (m : ℕ). take m more) k ∙ take-few more (81 - r.count))
          ∙ sym (ap (λ (m : ℕ). take m (line ++ more)) (room r.count (length line) here h) ∙ take-append-add line more (81 - r.count)));
    }

-- The line feed behind a line.
pub ended-none : (r : Reader) (kept : Text) → 81 < r.count → Ended r (reader_of kept 0)
ended-none r kept h = record { few = omega arith; bytes = λ line q. absurd (omega (arith, q.counted)) }

pub ended-one : (r : Reader) → r.count ≤ 81 → length r.kept ≡ 82 → Ended r (reader_of (set r.kept r.count 10) (r.count + 1))
ended-one r h long = record { few = omega arith; bytes = λ line q. put-behind r.kept r.count 10 (looked line) (omega arith) q.bytes }
