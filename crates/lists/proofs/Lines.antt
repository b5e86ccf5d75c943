-- Lines in a list of bytes: what a line written there leaves to read. Assumes nothing.
use mathlib.Core.Path.{◌≡◌, sym, ◌∙◌, ap, ap₂}
use mathlib.Core.Logic.{◌⊎◌, inl, inr, ◌≢◌}
use mathlib.Core.List.{List, ◌++◌, append_assoc}
use Prim.Native.Nat.{ℕ, ◌+◌, ◌*◌, ◌-◌, ◌≤◌, ◌<◌}
use native.Mathlib.Nat.{add_assoc}
use native.Mathlib.Decide.{dec_lt}
use native.Mathlib.Omega.{arith}
use lib.ListN.{length, get_or, take, drop, length-drop, take-append-drop, get_or-eq_default}
use lib.Seq.{length-paste, drop-paste, length-take-le, take_at, drop_at, take_all, take-append-le, drop-append-le, take-append-add, drop-append-add, take-take, drop-drop, get_or-take, get_or-drop}
use Rattle.rules.specs.Line.{IsLine}
use Rattle.lists.specs.Lines.{line_at, paste_line}

-- ---- in two lists, one behind the other
module _ (xs ys : List ℕ) (at : ℕ) where
  pub line-front : at + 16 ≤ length xs → line_at (xs ++ ys) at ≡ line_at xs at
  unfolding line_at
  line-front h =
      ap (take 16) (drop-append-le at xs ys (omega arith)) ∙ take-append-le 16 (drop at xs) ys (omega (arith, length-drop at xs))

  pub paste-front : (x : List ℕ) → at + 16 ≤ length xs → paste_line (xs ++ ys) at x ≡ paste_line xs at x ++ ys
  unfolding paste_line
  paste-front x h =
      ap₂ (λ (us vs : List ℕ). us ++ take 16 x ++ vs) (take-append-le at xs ys (omega arith)) (drop-append-le (at + 16) xs ys h)
      ∙ sym (append_assoc (take at xs ++ take 16 x) (drop (at + 16) xs) ys)

  pub paste-behind : (x : List ℕ) → paste_line (xs ++ ys) (length xs + at) x ≡ xs ++ paste_line ys at x
  unfolding paste_line
  paste-behind x =
      ap₂ (λ (us vs : List ℕ). us ++ take 16 x ++ vs) (take-append-add xs ys at)
      (ap (λ (n : ℕ). drop n (xs ++ ys)) (add_assoc (length xs) at 16) ∙ drop-append-add xs ys (at + 16))
      ∙ simp append_assoc

-- ---- a line written where it stands already
pub paste-own : (xs : List ℕ) (at : ℕ) → paste_line xs at (line_at xs at) ≡ xs
unfolding line_at paste_line
paste-own xs at =
    ap (λ (ys : List ℕ). take at xs ++ ys ++ drop (at + 16) xs) (take-take 16 16 (drop at xs) (omega arith))
    ∙ (append_assoc (take at xs) (take 16 (drop at xs)) (drop (at + 16) xs)
    ∙ (ap (λ (ys : List ℕ). take at xs ++ (take 16 (drop at xs) ++ ys)) (sym (drop-drop 16 at xs))
    ∙ (ap (λ (ys : List ℕ). take at xs ++ ys) (take-append-drop 16 (drop at xs)) ∙ take-append-drop at xs)))

-- ---- after a line is written at a place
module _ (xs x : List ℕ) (at : ℕ) (room : at + 16 ≤ length xs) (long : length x ≡ 16) where
  -- the length is as it was
  pub length-written : length (paste_line xs at x) ≡ length xs
  unfolding paste_line
  length-written = length-paste xs at x 16 room (omega arith)

  -- the line is read back
  pub read-own : line_at (paste_line xs at x) at ≡ x
  unfolding line_at paste_line
  read-own =
      ap (take 16)
      (ap (drop at) (append_assoc (take at xs) (take 16 x) (drop (at + 16) xs))
      ∙ drop_at (take at xs) (take 16 x ++ drop (at + 16) xs) at (length-take-le at xs (omega arith)))
      ∙ (take_at (take 16 x) (drop (at + 16) xs) 16 (length-take-le 16 x (omega arith)) ∙ take_all 16 x (omega arith))

  -- what lies past it is as it was
  pub past-written : (n : ℕ) → at + 16 ≤ n → drop n (paste_line xs at x) ≡ drop n xs
  unfolding paste_line
  past-written n h =
      let m : ℕ = n - (at + 16) in
      let e : n ≡ at + 16 + m = omega arith in
      ap (λ (k : ℕ). drop k (paste_line xs at x)) e
      ∙ (sym (drop-drop m (at + 16) (paste_line xs at x))
      ∙ (ap (drop m) (drop-paste xs at x 16 (omega arith) (omega arith)) ∙ (drop-drop m (at + 16) xs ∙ ap (λ (k : ℕ). drop k xs) (sym e))))

  -- and so is every line apart from it
  read-before : (b : ℕ) → b + 16 ≤ at → line_at (paste_line xs at x) b ≡ line_at xs b
  unfolding paste_line
  read-before b h =
      let fits : b + 16 ≤ length (take at xs) = omega (arith, length-take-le at xs (omega arith)) in
      ap (λ (ys : List ℕ). line_at ys b) (append_assoc (take at xs) (take 16 x) (drop (at + 16) xs))
      ∙ (line-front (take at xs) (take 16 x ++ drop (at + 16) xs) b fits
      ∙ (sym (line-front (take at xs) (drop at xs) b fits) ∙ ap (λ (ys : List ℕ). line_at ys b) (take-append-drop at xs)))

  pub read-other : (b : ℕ) → (b + 16 ≤ at) ⊎ (at + 16 ≤ b) → line_at (paste_line xs at x) b ≡ line_at xs b
  unfolding line_at
  read-other b (inl before) = read-before b before
  read-other b (inr after) = ap (take 16) (past-written b after)

-- ---- lines of different numbers lie apart
pub apart : (m n : ℕ) → m ≢ n → (16 * m + 16 ≤ 16 * n) ⊎ (16 * n + 16 ≤ 16 * m)
apart m n d =
    elim (dec_lt m n) [
      | yes h ↦ inl (omega arith)
      | no h ↦ inr (omega arith)
    ]

-- ---- a line of bytes is a line
pub is-line : (xs : List ℕ) (at : ℕ) → at + 16 ≤ length xs → ((i : ℕ) → i < at + 16 → get_or xs i 0 < 256) → IsLine (line_at xs at)
unfolding line_at
is-line xs at room small =
    let long : length (line_at xs at) ≡ 16 = length-take-le 16 (drop at xs) (omega (arith, length-drop at xs)) in
    record {
      long = long;
      small = λ i.
          elim (dec_lt i 16) [
            | yes h ↦ rw (get_or-take 16 (drop at xs) i 0 h, get_or-drop at xs i 0) (small (at + i) (omega arith))
            | no h ↦ rw (get_or-eq_default (line_at xs at) 0 {n = i} (omega arith)) (omega arith)
          ];
    }
