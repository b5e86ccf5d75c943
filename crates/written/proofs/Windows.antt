-- The bits of a group whose index from OMF lies in a window, digit by digit. Assumes nothing.
use mathlib.Core.Path.{◌≡◌, sym, ◌∙◌, ap, ap₂, subst}
use mathlib.Core.Bool.{Bool, false, ◌&&◌, and-false, and-true}
use mathlib.Core.Logic.{◌⊎◌, inl, inr, ⊎_elim}
use Prim.Native.Nat.{ℕ, ◌+◌, ◌-◌, ◌*◌, ◌/◌, ◌%◌, ◌^◌, ◌≤◌, ◌<◌, min}
use native.Mathlib.Nat.{mul_assoc, mul-div_cancel, add_comm, lt_of_mul-lt-mul_right, lt_of_lt_of_le}
use native.Mathlib.Decide.{dec_le, dec_lt}
use borrow.Author.Tests.{le-leb, lt-leb, lt-ltb, le-ltb}
use lib.Dec.{leb, ltb}
use native.Mathlib.Omega.{arith}
use lib.Arith.{digits_div, digits_mod, digits_lt}
use lib.Bits.{bit_and}
use lib.Pow.{pow_pos, pow_mono, pow-add}
use mir.Syntax.{w32}
use mir.Val.{Fits}
use Rattle.rules.proofs.Circle.{index-reaches}
use Rattle.frames.specs.Circle.{index_of}
use Rattle.numbers.specs.Digits.{digit, bit, range_of}
use Rattle.frames.proofs.Circle.{index_below}
use Rattle.numbers.proofs.Digits.{digit-below, digit-from, digit-bit, bit-none, range-lt, range-under, range-over, range-in, range-and, and_parts}
use Rattle.written.specs.Bits.{first_index, before_wrap, after_wrap, cut_of, window_of}

-- two numbers with their digits on either side of a place add up digit by digit
module _ (low k u : ℕ) (small : low < 2 ^ u) where
  pub sum-under : (q : ℕ) → q < u → digit (low + k * 2 ^ u) q ≡ digit low q
  sum-under q h =
      digit-below (low + k * 2 ^ u) low u q
      (ap (λ (n : ℕ). n % 2 ^ u) (add_comm low (k * 2 ^ u)) ∙ (digits_mod k small ∙ sym (native.Mathlib.Nat.mod-eq_of_lt small))) h

  pub sum_over : (q : ℕ) → u ≤ q → digit (low + k * 2 ^ u) q ≡ digit (k * 2 ^ u) q
  sum_over q h =
      digit-from (low + k * 2 ^ u) (k * 2 ^ u) u q
      (ap (λ (n : ℕ). n / 2 ^ u) (add_comm low (k * 2 ^ u)) ∙ (digits_div k small ∙ sym (mul-div_cancel k (pow_pos u)))) h

  pub sum_lt : (m : ℕ) → u ≤ m → k * 2 ^ u < 2 ^ m → low + k * 2 ^ u < 2 ^ m
  sum_lt m h b =
      let d : ℕ = m - u in
      let e : 2 ^ m ≡ 2 ^ d * 2 ^ u = ap (λ (n : ℕ). 2 ^ n) (sym (native.Mathlib.Nat.sub-add_cancel {n = m} {m = u} h)) ∙ pow-add 2 d u in
      rw e (rw (add_comm low (k * 2 ^ u)) (digits_lt (lt_of_mul-lt-mul_right (2 ^ u) (rw e at b)) small))

-- a range that starts at a place or above it is a multiple of its power
range-multiple : (g lo hi u : ℕ) → u ≤ lo → (k : ℕ) × (range_of g lo hi ≡ k * 2 ^ u)
unfolding range_of
range-multiple g lo hi u h =
    let z : ℕ = g % 2 ^ hi / 2 ^ lo in
    let e : 2 ^ lo ≡ 2 ^ (lo - u) * 2 ^ u = ap (λ (n : ℕ). 2 ^ n) (sym (native.Mathlib.Nat.sub-add_cancel {n = lo} {m = u} h)) ∙ pow-add 2 (lo - u) u in
    (z * 2 ^ (lo - u), ap (λ (n : ℕ). z * n) e ∙ sym (mul_assoc z (2 ^ (lo - u)) (2 ^ u)))

-- A frame of an area has the index of the area's first frame and its position, or lies past the place where the circle closes.
module _ (n omf area : ℕ) (h : omf < n) where
  abbrev s : ℕ
  s = index_of n omf (area * 16)

  abbrev u : ℕ
  u = min 16 (n - s)

  module _ (q : ℕ) (b : area * 16 + q < n) (c : q < 16) where
    abbrev x : ℕ
    x = index_of n omf (area * 16 + q)

    pub index-cases : ((q < u) × (x ≡ s + q)) ⊎ ((u ≤ q) × (x + u ≡ q))
    unfolding index_of
    index-cases =
        ⊎_elim
        (λ e. ⊎_elim
        (λ d. inl (omega (arith, e, d, index_below n omf h (area * 16 + q)), omega (arith, e, d)))
        (λ d. absurd (omega (arith, e, d, index_below n omf h (area * 16 + q)))) there)
        (λ e. ⊎_elim
        (λ d. inr (omega (arith, e, d, index_below n omf h (area * 16)), omega (arith, e, d, index_below n omf h (area * 16))))
        (λ d. inl (omega (arith, e, d, index_below n omf h (area * 16 + q)), omega (arith, e, d))) there)
        (index-reaches n (area * 16) omf (omega arith) h)
      where
        there : Rattle.rules.proofs.Circle.Reaches n omf ((area * 16 + q + n - omf) % n) (area * 16 + q)
        there = index-reaches n (area * 16 + q) omf b h

least-few : (a w : ℕ) → w ≤ 16 → w ≤ min 16 (a + w)
least-few a w h = omega arith

-- The two parts of a window, digit by digit: the first u digits stand for the indexes from s on, the others for those from 0 on.
module _ (g s u from end : ℕ) (few : u ≤ 16) where
  abbrev part : ℕ
  part = before_wrap g s u from end

  abbrev whole : ℕ
  whole = part + after_wrap g u from end

  high : (k : ℕ) × (after_wrap g u from end ≡ k * 2 ^ u)
  unfolding after_wrap
  high = range-multiple g (min 16 (from + u)) (min 16 (end + u)) u (least-few from u few)

  part_small : part < 2 ^ u
  unfolding before_wrap
  part_small =
      lt_of_lt_of_le (range-lt g (min u (from - s)) (min u (end - s))) (pow_mono {i = min u (end - s)} {j = u} (native.Mathlib.Nat.min-le_left u (end - s)))

  after_small : after_wrap g u from end < 2 ^ 16
  unfolding after_wrap
  after_small =
      lt_of_lt_of_le (range-lt g (min 16 (from + u)) (min 16 (end + u))) (pow_mono {i = min 16 (end + u)} {j = 16} (native.Mathlib.Nat.min-le_left 16 (end + u)))

  whole_is : whole ≡ part + high.0 * 2 ^ u
  whole_is = ap (λ (n : ℕ). part + n) high.1

  pub whole-small : whole < 65536
  whole-small = rw whole_is (sum_lt part high.0 u part_small 16 few (subst (λ (n : ℕ). n < 2 ^ 16) high.1 after_small))

  whole-under : (q : ℕ) → q < u → digit whole q ≡ digit part q
  whole-under q h = ap (λ (n : ℕ). digit n q) whole_is ∙ sum-under part high.0 u part_small q h

  whole-over : (q : ℕ) → u ≤ q → digit whole q ≡ digit (after_wrap g u from end) q
  whole-over q h =
      ap (λ (n : ℕ). digit n q) whole_is ∙ (sum_over part high.0 u part_small q h ∙ ap (λ (n : ℕ). digit n q) (sym high.1))

  in-under : (q : ℕ) → q < u → from ≤ s + q → s + q < end → digit whole q ≡ digit g q
  unfolding before_wrap
  in-under q h a b = whole-under q h ∙ range-in g (min u (from - s)) (min u (end - s)) q (omega arith) (omega arith)

  out-under : (q : ℕ) → q < u → (s + q < from) ⊎ (end ≤ s + q) → digit whole q ≡ 0
  unfolding before_wrap
  out-under q h (inl a) = whole-under q h ∙ range-under g (min u (from - s)) (min u (end - s)) q (omega arith)
  out-under q h (inr a) = whole-under q h ∙ range-over g (min u (from - s)) (min u (end - s)) q (omega arith)

  in-over : (q x : ℕ) → u ≤ q → q < 16 → x + u ≡ q → from ≤ x → x < end → digit whole q ≡ digit g q
  unfolding after_wrap
  in-over q x h c e a b = whole-over q h ∙ range-in g (min 16 (from + u)) (min 16 (end + u)) q (omega arith) (omega arith)

  out-over : (q x : ℕ) → u ≤ q → q < 16 → x + u ≡ q → (x < from) ⊎ (end ≤ x) → digit whole q ≡ 0
  unfolding after_wrap
  out-over q x h c e (inl a) = whole-over q h ∙ range-under g (min 16 (from + u)) (min 16 (end + u)) q (omega arith)
  out-over q x h c e (inr a) = whole-over q h ∙ range-over g (min 16 (from + u)) (min 16 (end + u)) q (omega arith)

-- A window keeps the digits of the frames whose index lies in it, and no other.
module _ (n omf area g from end : ℕ) where
  pub window-small : window_of n omf area g from end < 65536
  unfolding window_of cut_of
  window-small = whole-small g (first_index n omf area) (min 16 (n - first_index n omf area)) from end (native.Mathlib.Nat.min-le_left 16 _)

  module _ (h : omf < n) (q : ℕ) (b : area * 16 + q < n) (c : q < 16) where
    pub window-in : from ≤ index_of n omf (area * 16 + q) → index_of n omf (area * 16 + q) < end → digit (window_of n omf area g from end) q ≡ digit g q
    unfolding window_of cut_of first_index
    window-in a d =
        ⊎_elim
        (λ w. in-under g (s n omf area h) (u n omf area h) from end (native.Mathlib.Nat.min-le_left 16 _) q w.0 (omega (arith, w.1)) (omega (arith, w.1)))
        (λ w. in-over g (s n omf area h) (u n omf area h) from end (native.Mathlib.Nat.min-le_left 16 _) q (x n omf area h q b c) w.0 c w.1 a d)
        (index-cases n omf area h q b c)

    pub window-out : (index_of n omf (area * 16 + q) < from) ⊎ (end ≤ index_of n omf (area * 16 + q)) → digit (window_of n omf area g from end) q ≡ 0
    unfolding window_of cut_of first_index
    window-out o =
        ⊎_elim
        (λ w. out-under g (s n omf area h) (u n omf area h) from end (native.Mathlib.Nat.min-le_left 16 _) q w.0
        (⊎_elim (λ a. inl (omega (arith, w.1, a))) (λ a. inr (omega (arith, w.1, a))) o))
        (λ w. out-over g (s n omf area h) (u n omf area h) from end (native.Mathlib.Nat.min-le_left 16 _) q (x n omf area h q b c) w.0 c w.1 o)
        (index-cases n omf area h q b c)

    -- the same as a test
    pub window-bit : bit (window_of n omf area g from end) q ≡ (bit g q && (leb from (index_of n omf (area * 16 + q)) && ltb (index_of n omf (area * 16 + q)) end))
    window-bit = go (dec_le from (index_of n omf (area * 16 + q))) (dec_lt (index_of n omf (area * 16 + q)) end)
      where
        drop : (t : Bool) → t ≡ false → (bit g q && t) ≡ false
        drop t e = ap (λ (z : Bool). bit g q && z) e ∙ and-false (bit g q)

        go : Dec (from ≤ index_of n omf (area * 16 + q)) → Dec (index_of n omf (area * 16 + q) < end)
            → bit (window_of n omf area g from end) q ≡ (bit g q && (leb from (index_of n omf (area * 16 + q)) && ltb (index_of n omf (area * 16 + q)) end))
        go (yes a) (yes d) =
            digit-bit (window_of n omf area g from end) g q q (window-in a d)
            ∙ sym (ap (λ (z : Bool). bit g q && z) (ap₂ (λ (y z : Bool). y && z) (le-leb from _ a) (lt-ltb _ end d)) ∙ and-true (bit g q))
        go (yes a) (no d) =
            bit-none (window_of n omf area g from end) q (window-out (inr (omega arith)))
            ∙ sym (drop _ (ap₂ (λ (y z : Bool). y && z) (le-leb from _ a) (le-ltb _ end (omega arith))))
        go (no a) d =
            bit-none (window_of n omf area g from end) q (window-out (inl (omega arith)))
            ∙ sym (drop _ (ap (λ (y : Bool). y && ltb (index_of n omf (area * 16 + q)) end) (lt-leb from _ (omega arith))))

-- A window in the form in which the code has its parts.
module _ (g s u from end : ℕ) where
  pub cut-told : (a b : ℕ) → u ≤ 16 → a ≡ before_wrap g s u from end → b ≡ after_wrap g u from end
      → (a + b ≡ cut_of g s u from end) × (a + b < 65536)
  unfolding cut_of
  cut-told a b few ea eb =
      let e : a + b ≡ cut_of g s u from end = cc in
      (e, omega (arith, e, whole-small g s u from end few))

  pub cut_fits : (a b : ℕ) → u ≤ 16 → a ≡ before_wrap g s u from end → b ≡ after_wrap g u from end → Fits w32 (a + b)
  cut_fits a b few ea eb = record { fits = omega (arith, (cut-told a b few ea eb).1) }

-- Masked by the window of a group with every bit, a group is its own window.
module _ (g s u end : ℕ) (few : u ≤ 16) where
  before-and : bit_and g (before_wrap 65535 s u 0 end) ≡ before_wrap g s u 0 end
  unfolding before_wrap
  before-and = range-and g (min u (0 - s)) (min u (end - s)) (omega arith)

  after-and : bit_and g (after_wrap 65535 u 0 end) ≡ after_wrap g u 0 end
  unfolding after_wrap
  after-and = range-and g (min 16 (0 + u)) (min 16 (end + u)) (omega arith)

  pub cut-and : bit_and g (cut_of 65535 s u 0 end) ≡ cut_of g s u 0 end
  unfolding cut_of
  cut-and =
      ap (bit_and g) (whole_is 65535 s u 0 end few)
      ∙ (and_parts g (before_wrap 65535 s u 0 end) (high 65535 s u 0 end few).0 u (part_small 65535 s u 0 end few)
      ∙ ap₂ (λ (a b : ℕ). a + b) before-and (ap (bit_and g) (sym (high 65535 s u 0 end few).1) ∙ after-and))

module _ (n omf area g s u : ℕ) (es : (s ≡ first_index n omf area) × (s < n)) (eu : u ≡ min 16 (n - s)) where
  pub window-told : (from end r : ℕ) → (r ≡ cut_of g s u from end) × (r < 65536) → r ≡ window_of n omf area g from end
  unfolding window_of
  window-told from end r e = cc
