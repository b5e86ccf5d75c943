-- Values of some bytes in a list of bytes: what their bytes read and written come to, and a value in a line that stands in a longer list.
-- Assumes nothing.
use mathlib.Core.Path.{◌≡◌, sym, ◌∙◌, ap, ap₂}
use mathlib.Core.Logic.{◌≢◌}
use mathlib.Core.Bool.{Bool, true, ◌||◌}
use borrow.Rule.Slice.PartMut.{put_mid}
use mathlib.Core.List.{List, [], ◌∷◌, ◌++◌, append_assoc}
use Prim.Native.Nat.{ℕ, suc, ◌+◌, ◌-◌, ◌*◌, ◌/◌, ◌%◌, ◌^◌, ◌≤◌, ◌<◌}
use native.Mathlib.Nat.{add_assoc}
use native.Mathlib.Omega.{arith}
use borrow.Author.Tests.{eqb-true, ne_eqb}
use lib.Dec.{eqb}
use lib.ListN.{length, get_or, set, take, drop, take-append-drop, length-drop}
use lib.Seq.{drop-cons, length-take-le, take_all, take-take, drop-drop, take-add, take-append-le, drop-append-le}
use Rattle.std.proofs.lemmas.List.{set_split}
use Rattle.rules.specs.Line.{bytes_of, value_of, edit, value_at}
use Rattle.rules.specs.Refusal.{is_width}
use Rattle.rules.proofs.Line.{length-edit}
use Rattle.lists.specs.Lines.{line_at, paste_line, AsksValue, AsksBytes}

-- A width that is neither 1 nor 2 is 4.
pub four : (w : ℕ) → is_width w ≡ true → w ≢ 1 → w ≢ 2 → w ≡ 4
unfolding is_width
four w h a b = eqb-true w 4 (sym (ap₂ (λ (x y : Bool). x || y || eqb w 4) (ne_eqb w 1 a) (ne_eqb w 2 b)) ∙ h)

-- A value of four bytes lies in the list.
pub four_inside : {w at long : ℕ} → AsksValue w at long → w ≢ 1 → w ≢ 2 → at + 4 ≤ long
four_inside {w} asks o t = omega (arith, asks.inside, four w asks.width_is o t)

-- ---- reading
-- one byte more
value-more : (v n : ℕ) (x : List ℕ) (at : ℕ) → at < length x
    → value_of v (take (suc n) (drop at x)) ≡ value_of (v * 256 + get_or x at 0) (take n (drop (suc at) x))
unfolding value_of
value-more v n x at h = ap (λ (ys : List ℕ). value_of v (take (suc n) ys)) (drop-cons x at 0 h)

value-first : (n : ℕ) (x : List ℕ) (at : ℕ) → at < length x → value_of 0 (take (suc n) (drop at x)) ≡ value_of (get_or x at 0) (take n (drop (suc at) x))
value-first n x at h =
    let none : (b : ℕ) → 0 * 256 + b ≡ b = λ b. omega arith in
    value-more 0 n x at h ∙ ap (λ (b : ℕ). value_of b (take n (drop (suc at) x))) (none (get_or x at 0))

module _ (w at : ℕ) (x : List ℕ) (asks : AsksValue w at (length x)) where
  abbrev byte : ℕ → ℕ
  byte i = get_or x (at + i) 0

  -- the bytes by their places, in the form in which the chain has them
  place : (i j : ℕ) → i ≡ at + j → get_or x i 0 ≡ byte j
  place i j e = ap (λ (n : ℕ). get_or x n 0) e

  pub value-one : w ≡ 1 → get_or x at 0 ≡ value_at w at x
  unfolding value_at value_of
  value-one e = sym (ap (λ (n : ℕ). value_of 0 (take n (drop at x))) e ∙ value-first 0 x at (omega (arith, asks.inside)))

  pub value-two : w ≡ 2 → get_or x at 0 * 256 + byte 1 ≡ value_at w at x
  unfolding value_at value_of
  value-two e =
      sym (ap (λ (n : ℕ). value_of 0 (take n (drop at x))) e
      ∙ (value-first 1 x at (omega (arith, asks.inside))
      ∙ (value-more (get_or x at 0) 0 x (suc at) (omega (arith, asks.inside))
      ∙ ap (λ (n : ℕ). get_or x at 0 * 256 + n) (place (suc at) 1 (omega arith)))))

  pub value-four : w ≢ 1 → w ≢ 2 → get_or x at 0 * 16777216 + byte 1 * 65536 + byte 2 * 256 + byte 3 ≡ value_at w at x
  unfolding value_at value_of
  value-four o t =
      let e : w ≡ 4 = four w asks.width_is o t in
      let all : value_of 0 (take w (drop at x)) ≡ ((get_or x at 0 * 256 + get_or x (suc at) 0) * 256 + get_or x (suc (suc at)) 0) * 256 + get_or x (suc (suc (suc at))) 0 =
      ap (λ (n : ℕ). value_of 0 (take n (drop at x))) e
      ∙ (value-first 3 x at (omega (arith, asks.inside))
      ∙ (value-more _ 2 x (suc at) (omega (arith, asks.inside))
      ∙ (value-more _ 1 x (suc (suc at)) (omega (arith, asks.inside))
      ∙ value-more _ 0 x (suc (suc (suc at))) (omega (arith, asks.inside)))))
      in
      omega (
        arith,
        all,
        place (suc at) 1 (omega arith),
        place (suc (suc at)) 2 (omega arith),
        place (suc (suc (suc at))) 3 (omega arith),
      )

-- ---- writing
-- the list after so many bytes of a value are copied to a place
copied_edit : (k at v : ℕ) (x ys : List ℕ) → ys ≡ bytes_of k v → put_mid at (at + k - at) x ys ≡ edit k at v x
unfolding edit
copied_edit k at v x ys e =
    let n : at + k - at ≡ k = omega arith in
    (λ i. take at x ++ (e i ++ drop (n i) (drop at x))) ∙ ap (λ (zs : List ℕ). take at x ++ (bytes_of k v ++ zs)) (drop-drop k at x)

module _ (w at v : ℕ) (x : List ℕ) (asks : AsksValue w at (length x)) where
  pub edit-one : w ≡ 1 → set x at (v % 256) ≡ edit w at v x
  unfolding edit bytes_of
  edit-one e =
      let low : v % 256 ≡ v / 256 ^ 0 % 256 = omega arith in
      let next : suc at ≡ at + 1 = omega arith in
      set_split x at (v % 256) (omega (arith, asks.inside))
      ∙ ((λ i. take at x ++ (low i ∷ drop (next i) x)) ∙ ap (λ (n : ℕ). edit n at v x) (sym e))

  pub edit-two : (ys : List ℕ) → w ≡ 2 → ys ≡ v % 65536 / 256 % 256 ∷ v % 65536 % 256 ∷ [] → put_mid at (at + 2 - at) x ys ≡ edit w at v x
  unfolding bytes_of
  edit-two ys e h =
      let high : v % 65536 / 256 % 256 ≡ v / 256 ^ 1 % 256 = omega arith in
      let low : v % 65536 % 256 ≡ v / 256 ^ 0 % 256 = omega arith in
      copied_edit 2 at v x ys (h ∙ (λ i. high i ∷ low i ∷ [])) ∙ ap (λ (n : ℕ). edit n at v x) (sym e)

  pub edit-four : (ys : List ℕ) → w ≢ 1 → w ≢ 2
      → ys ≡ v / 16777216 % 256 ∷ v / 65536 % 256 ∷ v / 256 % 256 ∷ v % 256 ∷ [] → put_mid at (at + 4 - at) x ys ≡ edit w at v x
  unfolding bytes_of
  edit-four ys o t h =
      let e : w ≡ 4 = four w asks.width_is o t in
      let low : v % 256 ≡ v / 256 ^ 0 % 256 = omega arith in
      copied_edit 4 at v x ys (h ∙ (λ i. v / 16777216 % 256 ∷ v / 65536 % 256 ∷ v / 256 % 256 ∷ low i ∷ [])) ∙ ap (λ (n : ℕ). edit n at v x) (sym e)

-- ---- a value in a line that stands in a longer list
module _ (w o at : ℕ) (xs : List ℕ) (asks : AsksBytes w o) where
  abbrev ys : List ℕ
  ys = drop at xs

  -- a line and what lies behind it
  split : take 16 ys ++ drop (at + 16) xs ≡ ys
  split = ap (λ (zs : List ℕ). take 16 ys ++ zs) (sym (drop-drop 16 at xs)) ∙ take-append-drop 16 ys

  pub line-value : at + 16 ≤ length xs → value_at w (at + o) xs ≡ value_at w o (line_at xs at)
  unfolding value_at line_at
  line-value room =
      let long : length (take 16 ys) ≡ 16 = length-take-le 16 ys (omega (arith, length-drop at xs)) in
      ap (value_of 0)
      (ap (take w)
      (sym (drop-drop o at xs) ∙ (ap (drop o) (sym split) ∙ drop-append-le o (take 16 ys) (drop (at + 16) xs) (omega (arith, asks.inside))))
      ∙ take-append-le w (drop o (take 16 ys)) (drop (at + 16) xs) (omega (arith, asks.inside, length-drop o (take 16 ys))))

  pub line-edit : (v : ℕ) → at + 16 ≤ length xs → edit w (at + o) v xs ≡ paste_line xs at (edit w o v (line_at xs at))
  unfolding edit line_at paste_line
  line-edit v room =
      let line : List ℕ = take 16 ys in
      let long : length line ≡ 16 = length-take-le 16 ys (omega (arith, length-drop at xs)) in
      let bytes : List ℕ = bytes_of w v in
      let rest : List ℕ = drop (at + 16) xs in
      let new : List ℕ = take o line ++ (bytes ++ drop (o + w) line) in
      let whole : take 16 new ≡ new = take_all 16 new (omega (arith, length-edit w o v line (omega (arith, asks.inside)))) in
      let end : drop (o + w) line ++ rest ≡ drop (at + o + w) xs =
      sym (drop-append-le (o + w) line rest (omega (arith, asks.inside)))
      ∙ (ap (drop (o + w)) split ∙ (drop-drop (o + w) at xs ∙ ap (λ (n : ℕ). drop n xs) (sym (add_assoc at o w))))
      in
      let start : take at xs ++ take o line ≡ take (at + o) xs =
      ap (λ (zs : List ℕ). take at xs ++ zs) (take-take o 16 ys (omega (arith, asks.inside))) ∙ sym (take-add at o xs)
      in
      sym (ap (λ (zs : List ℕ). take at xs ++ zs ++ rest) whole
      ∙ (append_assoc (take at xs) new rest
      ∙ (ap (λ (zs : List ℕ). take at xs ++ zs)
      (append_assoc (take o line) (bytes ++ drop (o + w) line) rest
      ∙ ap (λ (zs : List ℕ). take o line ++ zs) (append_assoc bytes (drop (o + w) line) rest ∙ ap (λ (zs : List ℕ). bytes ++ zs) end))
      ∙ (sym (append_assoc (take at xs) (take o line) (bytes ++ drop (at + o + w) xs)) ∙ ap (λ (zs : List ℕ). zs ++ (bytes ++ drop (at + o + w) xs)) start))))
