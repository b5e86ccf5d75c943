-- What a write and a read of a line do, with the width as a parameter: a write is read back, and changes no byte outside its own.
-- Assumes nothing.
use mathlib.Core.Path.{◌≡◌, refl, sym, ◌∙◌, ap}
use mathlib.Core.List.{List, [], ◌∷◌, ◌++◌}
use Prim.Native.Nat.{ℕ, zero, suc, ◌+◌, ◌-◌, ◌*◌, ◌/◌, ◌%◌, ◌^◌, ◌≤◌, ◌<◌}
use native.Mathlib.Nat.{mod-lt, mod-eq_of_lt, mul_assoc, add-mul, pow-succ', mod-one, zero-mul, add_assoc}
use native.Mathlib.Omega.{arith}
use native.Mathlib.Decide.{dec_lt}
use lib.Arith.{mod-mul}
use lib.ListN.{length, get_or, replicate, take, drop, length-append, length-drop, get_or-append}
use lib.Seq.{length-take-le, drop_at, take_at, get_or-take, get_or-drop, get_or-append-add}
use Rattle.rules.specs.Line.{Line, IsLine, zeros, bytes_of, value_of, edit, value_at}
use Rattle.rules.specs.Plain.{Each}

pow-256-pos : (w : ℕ) → 0 < 256 ^ w
pow-256-pos w = native.Mathlib.Nat.one-le-pow w 256 (omega arith)

pub length-bytes_of : (w v : ℕ) → length (bytes_of w v) ≡ w
unfolding bytes_of
length-bytes_of zero v = refl
length-bytes_of (suc w) v = ap suc (length-bytes_of w v)

bytes_of-small : (w v i : ℕ) → get_or (bytes_of w v) i 0 < 256
unfolding bytes_of
bytes_of-small zero v i = omega arith
bytes_of-small (suc w) v zero = mod-lt (v / 256 ^ w) (omega arith)
bytes_of-small (suc w) v (suc i) = bytes_of-small w v i

-- the value of a value's bytes, behind the bytes before them
value-bytes : (w u v : ℕ) → value_of u (bytes_of w v) ≡ u * 256 ^ w + v % 256 ^ w
unfolding bytes_of value_of
value-bytes zero u v = omega (arith, mod-one v)
value-bytes (suc w) u v =
    value-bytes w (u * 256 + v / 256 ^ w % 256) v
    ∙ rw (pow-succ' 256 w, mod-mul v {m = 256} {c = 256 ^ w} (omega arith) (pow-256-pos w), add-mul, mul_assoc) (add_assoc _ _ _)

module _ (w o v : ℕ) (x : Line) (fits : o + w ≤ length x) where
  head-length : length (take o x) ≡ o
  head-length = length-take-le o x (omega arith)

  pub length-edit : length (edit w o v x) ≡ length x
  unfolding edit
  length-edit =
      length-append (take o x) _
      ∙ omega (arith, head-length, length-append (bytes_of w v) (drop (o + w) x), length-bytes_of w v, length-drop (o + w) x)

  -- a write is read back
  pub read-edit : v < 256 ^ w → value_at w o (edit w o v x) ≡ v
  unfolding value_at edit
  read-edit h =
      ap (λ (y : Line). value_of 0 (take w y)) (drop_at (take o x) (bytes_of w v ++ drop (o + w) x) o head-length)
      ∙ (ap (value_of 0) (take_at (bytes_of w v) (drop (o + w) x) w (length-bytes_of w v))
      ∙ (value-bytes w 0 v ∙ omega (arith, zero-mul (256 ^ w), mod-eq_of_lt h)))

  -- and changes no byte before its own
  pub edit-before : (i : ℕ) → i < o → get_or (edit w o v x) i 0 ≡ get_or x i 0
  unfolding edit
  edit-before i h =
      get_or-append (take o x) _ 0 i (omega (arith, head-length)) ∙ get_or-take o x i 0 h

  -- or past them.
  past-own : (k : ℕ) → get_or (edit w o v x) (o + (w + k)) 0 ≡ get_or x (o + w + k) 0
  unfolding edit
  past-own k =
      ap (λ (n : ℕ). get_or (edit w o v x) (n + (w + k)) 0) (sym head-length)
      ∙ (get_or-append-add (take o x) (bytes_of w v ++ drop (o + w) x) (w + k) 0
      ∙ (ap (λ (n : ℕ). get_or (bytes_of w v ++ drop (o + w) x) (n + k) 0) (sym (length-bytes_of w v))
      ∙ (get_or-append-add (bytes_of w v) (drop (o + w) x) k 0 ∙ get_or-drop (o + w) x k 0)))

  pub edit-after : (i : ℕ) → o + w ≤ i → get_or (edit w o v x) i 0 ≡ get_or x i 0
  edit-after i h =
      let k : ℕ = i - (o + w) in
      let e : i ≡ o + (w + k) = omega arith in
      ap (λ (n : ℕ). get_or (edit w o v x) n 0) e ∙ (past-own k ∙ ap (λ (n : ℕ). get_or x n 0) (omega arith))

  own : (k : ℕ) → k < w → get_or (edit w o v x) (o + k) 0 ≡ get_or (bytes_of w v) k 0
  unfolding edit
  own k h =
      ap (λ (n : ℕ). get_or (edit w o v x) (n + k) 0) (sym head-length)
      ∙ (get_or-append-add (take o x) (bytes_of w v ++ drop (o + w) x) k 0
      ∙ get_or-append (bytes_of w v) (drop (o + w) x) 0 k (omega (arith, length-bytes_of w v)))

  -- A line stays a line.
  edit-small : ((i : ℕ) → get_or x i 0 < 256) → (i : ℕ) → get_or (edit w o v x) i 0 < 256
  edit-small h i =
      elim (dec_lt i o) [
        | yes before ↦ rw (edit-before i before) (h i)
        | no late ↦ elim (dec_lt i (o + w)) [
          | yes inside ↦
              let k : ℕ = i - o in
              let e : i ≡ o + k = omega arith in
              rw e (rw (own k (omega arith)) (bytes_of-small w v k))
          | no after ↦ rw (edit-after i (omega arith)) (h i)
        ]
      ]

  pub line-edit : IsLine x → IsLine (edit w o v x)
  line-edit h = record { long = length-edit ∙ h.long; small = edit-small h.small }

-- A value of a line of zeros is 0.
zeros-each : (n : ℕ) → Each (λ (x : ℕ). x ≡ 0) (replicate n 0)
zeros-each zero = tt
zeros-each (suc n) = (refl, zeros-each n)

each-drop : (n : ℕ) (xs : List ℕ) → Each (λ (x : ℕ). x ≡ 0) xs → Each (λ (x : ℕ). x ≡ 0) (drop n xs)
each-drop zero xs h = h
each-drop (suc n) [] h = tt
each-drop (suc n) (x ∷ xs) h = each-drop n xs h.1

each_take : (n : ℕ) (xs : List ℕ) → Each (λ (x : ℕ). x ≡ 0) xs → Each (λ (x : ℕ). x ≡ 0) (take n xs)
each_take zero xs h = tt
each_take (suc n) [] h = tt
each_take (suc n) (x ∷ xs) h = (h.0, each_take n xs h.1)

value-nought : (xs : List ℕ) → Each (λ (x : ℕ). x ≡ 0) xs → value_of 0 xs ≡ 0
unfolding value_of
value-nought [] h = refl
value-nought (x ∷ xs) h = ap (λ (n : ℕ). value_of n xs) (omega (arith, h.0)) ∙ value-nought xs h.1

pub zeros-value : (w o : ℕ) → value_at w o zeros ≡ 0
unfolding value_at zeros
zeros-value w o = value-nought _ (each_take w _ (each-drop o _ (zeros-each 16)))
