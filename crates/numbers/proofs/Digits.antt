-- Laws of binary digits. Two carry everything: equal remainders by a power have the same digits below it, equal quotients the same
-- digits from it on. Assumes nothing.
use Rattle.std.specs.Prelude.{Some, None}
use mathlib.Core.Path.{◌≡◌, refl, sym, ◌∙◌, ap, ap₂, subst}
use mathlib.Core.Bool.{Bool, true, false, ◌&&◌}
use Prim.Native.Nat.{ℕ, suc, ◌+◌, ◌-◌, ◌*◌, ◌/◌, ◌%◌, ◌^◌, ◌≤◌, ◌<◌}
use native.Mathlib.Nat.{mod-lt, div-eq_of_lt, div-mul-le_self, zero-div, zero-mod, mul-div_cancel, mul-mod_left, lt_of_le_of_lt, add-mul, mul_assoc, mul_comm, one-mul, div-eq_of_lt-le, pow-succ', sub-add_cancel, div-lt_iff_lt-mul, add_assoc, mod-le, mod-eq_of_lt, div-add-mod', add-zero, add_comm}
use native.Mathlib.Decide.{dec_lt, dec_le}
use native.Mathlib.Omega.{arith}
use lib.Bits.{bit_and, and_zero_r, and_comm, and_le_r, and_mask, and_block, and_shr, and_mod}
use lib.Arith.{digits_div, digits_mod, digits_lt}
use lib.Dec.{eqb, leb}
use lib.Pow.{pow_pos, pow_mono, pow-add, field, mod-mod-pow, shr-shr, shl_exact}
use lib.Count.{count_leading_zeros, leading_top}
use borrow.Author.Tests.{lt-leb, le-leb}
use Rattle.numbers.specs.Digits.{digit, bit, range_of, set_at, unset_at, newest_bit}
use Rattle.numbers.proofs.Search.{greatest-none, greatest-at}

digit-mod : (x k q : ℕ) → q < k → digit (x % 2 ^ k) q ≡ digit x q
unfolding digit
digit-mod x k q h =
    let m : ℕ = k - q - 1 in
    let e : k ≡ m + 1 + q = omega arith in
    ap (λ (n : ℕ). x % 2 ^ n / 2 ^ q % 2) e
    ∙ (ap (λ (n : ℕ). n % 2) (field x (m + 1) q) ∙ mod-mod-pow (x / 2 ^ q) m 1)

pub digit-below : (x y k q : ℕ) → x % 2 ^ k ≡ y % 2 ^ k → q < k → digit x q ≡ digit y q
digit-below x y k q e h = sym (digit-mod x k q h) ∙ (ap (λ (z : ℕ). digit z q) e ∙ digit-mod y k q h)

pub digit-from : (x y k q : ℕ) → x / 2 ^ k ≡ y / 2 ^ k → k ≤ q → digit x q ≡ digit y q
unfolding digit
digit-from x y k q e h =
    let m : ℕ = q - k in
    let d : q ≡ k + m = omega arith in
    ap (λ (n : ℕ). x / 2 ^ n % 2) d
    ∙ (ap (λ (n : ℕ). n % 2) (sym (shr-shr x k m) ∙ (ap (λ (n : ℕ). n / 2 ^ m) e ∙ shr-shr y k m)) ∙ ap (λ (n : ℕ). y / 2 ^ n % 2) (sym d))

digit-zero : (q : ℕ) → digit 0 q ≡ 0
unfolding digit
digit-zero q = ap (λ (n : ℕ). n % 2) (zero-div (2 ^ q))

-- past its length a number has no digit
pub digit-past : (x k q : ℕ) → x < 2 ^ k → k ≤ q → digit x q ≡ 0
digit-past x k q h b = digit-from x 0 k q (div-eq_of_lt h ∙ sym (zero-div (2 ^ k))) b ∙ digit-zero q

-- a one shifted by q places
pub one_shifted : (q : ℕ) → q < 32 → (1 * 2 ^ q % 4294967296 ≡ 2 ^ q) × (0 < 1 * 2 ^ q % 4294967296)
one_shifted q h =
    let e : 1 * 2 ^ q % 4294967296 ≡ 2 ^ q = shl_exact {a = 1} 1 q 32 (omega arith) (omega arith) ∙ one-mul (2 ^ q) in
    (e, rw e (pow_pos q))

-- RANGE
module _ (x lo hi : ℕ) where
  pub range-le : range_of x lo hi ≤ x % 2 ^ hi
  unfolding range_of
  range-le = div-mul-le_self (x % 2 ^ hi) (2 ^ lo)

  pub range-lt : range_of x lo hi < 2 ^ hi
  range-lt = lt_of_le_of_lt range-le (mod-lt x (pow_pos hi))

  pub range-under : (q : ℕ) → q < lo → digit (range_of x lo hi) q ≡ 0
  unfolding range_of
  range-under q h =
      digit-below (range_of x lo hi) 0 lo q (mul-mod_left (x % 2 ^ hi / 2 ^ lo) (2 ^ lo) ∙ sym (zero-mod (2 ^ lo))) h ∙ digit-zero q

  pub range-over : (q : ℕ) → hi ≤ q → digit (range_of x lo hi) q ≡ 0
  range-over q h = digit-past (range_of x lo hi) hi q range-lt h

  pub range-in : (q : ℕ) → lo ≤ q → q < hi → digit (range_of x lo hi) q ≡ digit x q
  unfolding range_of
  range-in q a b =
      digit-from (range_of x lo hi) (x % 2 ^ hi) lo q (mul-div_cancel (x % 2 ^ hi / 2 ^ lo) (pow_pos lo)) a ∙ digit-mod x hi q b

-- AND: a range of ones is a mask,
ones-mod : (hi : ℕ) → hi ≤ 16 → 65535 % 2 ^ hi ≡ 2 ^ hi - 1
ones-mod hi h =
    sym (and_mask 65535 hi)
    ∙ (and_comm 65535 (2 ^ hi - 1)
    ∙ (and_mask (2 ^ hi - 1) 16 ∙ mod-eq_of_lt (omega (arith, pow_pos hi, pow_mono {i = hi} {j = 16} h))))

and-shifted-in : (x m k : ℕ) → bit_and x (m * 2 ^ k) ≡ bit_and (x / 2 ^ k) m * 2 ^ k
and-shifted-in x m k =
    ap₂ bit_and (sym (div-add-mod' x (2 ^ k))) (sym (add-zero (m * 2 ^ k)))
    ∙ (and_block k (x / 2 ^ k) m (x % 2 ^ k) 0 (mod-lt x (pow_pos k)) (pow_pos k)
    ∙ (ap (λ (n : ℕ). bit_and (x / 2 ^ k) m * 2 ^ k + n) (and_zero_r (x % 2 ^ k)) ∙ add-zero (bit_and (x / 2 ^ k) m * 2 ^ k)))

pub range-and : (x lo hi : ℕ) → hi ≤ 16 → bit_and x (range_of 65535 lo hi) ≡ range_of x lo hi
unfolding range_of
range-and x lo hi h =
    and-shifted-in x (65535 % 2 ^ hi / 2 ^ lo) lo
    ∙ ap (λ (n : ℕ). n * 2 ^ lo)
    (sym (and_shr x (65535 % 2 ^ hi) lo) ∙ ap (λ (n : ℕ). n / 2 ^ lo) (ap (bit_and x) (ones-mod hi h) ∙ and_mask x hi))

-- and of two masks, one below a place and one from it on, each takes its part.
pub and_parts : (x low m k : ℕ) → low < 2 ^ k → bit_and x (low + m * 2 ^ k) ≡ bit_and x low + bit_and x (m * 2 ^ k)
and_parts x low m k h =
    ap₂ bit_and (sym (div-add-mod' x (2 ^ k))) (add_comm low (m * 2 ^ k))
    ∙ (and_block k (x / 2 ^ k) m (x % 2 ^ k) low (mod-lt x (pow_pos k)) h
    ∙ (ap₂ (λ (a b : ℕ). a + b) (sym (and-shifted-in x m k)) below ∙ add_comm (bit_and x (m * 2 ^ k)) (bit_and x low)))
  where
    below : bit_and (x % 2 ^ k) low ≡ bit_and x low
    below =
        ap (bit_and (x % 2 ^ k)) (sym (mod-eq_of_lt h))
        ∙ (sym (and_mod x low k) ∙ mod-eq_of_lt (lt_of_le_of_lt (and_le_r x low) h))

-- SET
set-law : (a b c r : ℕ) → c ≡ b * 2 → a * c + b + r ≡ (a * 2 + 1) * b + r
set-law a b c r e =
    let m : a * c ≡ a * 2 * b = ap (λ (n : ℕ). a * n) (e ∙ mul_comm b 2) ∙ sym (mul_assoc a 2 b) in
    omega (arith, m, add-mul (a * 2) 1 b, one-mul b)

module _ (x p : ℕ) where
  half : ℕ
  half = x / 2 ^ (p + 1)

  set_split : set_at x p ≡ (half * 2 + 1) * 2 ^ p + x % 2 ^ p
  unfolding set_at half
  set_split = set-law (x / 2 ^ (p + 1)) (2 ^ p) (2 ^ (p + 1)) (x % 2 ^ p) (pow-add 2 p 1)

  pub set-under : (q : ℕ) → q < p → digit (set_at x p) q ≡ digit x q
  set-under q h =
      digit-below (set_at x p) x p q
      (ap (λ (n : ℕ). n % 2 ^ p) set_split ∙ digits_mod (half * 2 + 1) (mod-lt x (pow_pos p))) h

  set-div : set_at x p / 2 ^ p ≡ half * 2 + 1
  set-div = ap (λ (n : ℕ). n / 2 ^ p) set_split ∙ digits_div (half * 2 + 1) (mod-lt x (pow_pos p))

  pub set_own : digit (set_at x p) p ≡ 1
  unfolding digit
  set_own = ap (λ (n : ℕ). n % 2) set-div ∙ omega arith

  pub set-over : (q : ℕ) → p < q → digit (set_at x p) q ≡ digit x q
  unfolding half
  set-over q h =
      digit-from (set_at x p) x (p + 1) q
      (sym (shr-shr (set_at x p) p 1) ∙ (ap (λ (n : ℕ). n / 2) set-div ∙ omega arith)) (omega arith)

-- a number below 2 ^ m stays there when one of its m digits is set
pub set-small : (m x p : ℕ) → x < 2 ^ m → p < m → set_at x p < 2 ^ m
unfolding set_at
set-small m x p h b =
    let d : ℕ = m - (p + 1) in
    let e : 2 ^ m ≡ 2 ^ d * 2 ^ (p + 1) =
    ap (λ (n : ℕ). 2 ^ n) (sym (sub-add_cancel {n = m} {m = p + 1} (omega arith))) ∙ pow-add 2 d (p + 1)
    in
    let above : x / 2 ^ (p + 1) < 2 ^ d = (div-lt_iff_lt-mul (pow_pos (p + 1))).1 (rw e at h) in
    let rest : 2 ^ p + x % 2 ^ p < 2 ^ (p + 1) = omega (arith, mod-lt x (pow_pos p), pow-add 2 p 1) in
    rw (e, add_assoc) (digits_lt above rest)

-- UNSET
unset-law : (a b c r : ℕ) → c ≡ b * 2 → a * c + r ≡ a * 2 * b + r
unset-law a b c r e = ap (λ (n : ℕ). n + r) (ap (λ (n : ℕ). a * n) (e ∙ mul_comm b 2) ∙ sym (mul_assoc a 2 b))

module _ (x p : ℕ) where
  unset-split : unset_at x p ≡ half x p * 2 * 2 ^ p + x % 2 ^ p
  unfolding unset_at half
  unset-split = unset-law (x / 2 ^ (p + 1)) (2 ^ p) (2 ^ (p + 1)) (x % 2 ^ p) (pow-add 2 p 1)

  pub unset-under : (q : ℕ) → q < p → digit (unset_at x p) q ≡ digit x q
  unset-under q h =
      digit-below (unset_at x p) x p q (ap (λ (n : ℕ). n % 2 ^ p) unset-split ∙ digits_mod (half x p * 2) (mod-lt x (pow_pos p))) h

  unset-div : unset_at x p / 2 ^ p ≡ half x p * 2
  unset-div = ap (λ (n : ℕ). n / 2 ^ p) unset-split ∙ digits_div (half x p * 2) (mod-lt x (pow_pos p))

  pub unset-own : digit (unset_at x p) p ≡ 0
  unfolding digit
  unset-own = ap (λ (n : ℕ). n % 2) unset-div ∙ omega arith

  pub unset-over : (q : ℕ) → p < q → digit (unset_at x p) q ≡ digit x q
  unfolding half
  unset-over q h =
      digit-from (unset_at x p) x (p + 1) q
      (sym (shr-shr (unset_at x p) p 1) ∙ (ap (λ (n : ℕ). n / 2) unset-div ∙ omega arith)) (omega arith)

  pub unset-le : unset_at x p ≤ x
  unfolding unset_at
  unset-le =
      let h : x % 2 ^ p ≤ x % 2 ^ (p + 1) = low-le in
      omega (arith, h, div-add-mod' x (2 ^ (p + 1)))
    where
      low-le : x % 2 ^ p ≤ x % 2 ^ (p + 1)
      low-le =
          let turn : p + 1 ≡ 1 + p = omega arith in
          subst (λ (n : ℕ). n ≤ x % 2 ^ (p + 1)) (ap (λ (k : ℕ). x % 2 ^ k % 2 ^ p) turn ∙ mod-mod-pow x 1 p) (mod-le (x % 2 ^ (p + 1)) (2 ^ p))

-- in the form in which the code has it
pub unset-told : (x p here above : ℕ) → here ≡ 2 ^ p → above ≡ 2 ^ (p + 1) → x < 65536 → (x / above * above + x % here ≡ unset_at x p) × (x / above * above + x % here < 65536)
unfolding unset_at
unset-told x p here above e d b =
    let same : x / above * above + x % here ≡ x / 2 ^ (p + 1) * 2 ^ (p + 1) + x % 2 ^ p = ap₂ (λ (h a : ℕ). x / a * a + x % h) e d in
    (same, omega (arith, same, unset-le x p))

-- BITS
pub bit-told : (x p here : ℕ) → here ≡ 2 ^ p → eqb (x / here % 2) 1 ≡ bit x p
unfolding bit digit
bit-told x p here e = ap (λ (h : ℕ). eqb (x / h % 2) 1) e

pub digit-bit : (x y p q : ℕ) → digit x p ≡ digit y q → bit x p ≡ bit y q
unfolding bit
digit-bit x y p q e = ap (λ (n : ℕ). eqb n 1) e

pub bit-none : (x q : ℕ) → digit x q ≡ 0 → bit x q ≡ false
unfolding bit
bit-none x q e = ap (λ (n : ℕ). eqb n 1) e

pub bit-one : (x q : ℕ) → digit x q ≡ 1 → bit x q ≡ true
unfolding bit
bit-one x q e = ap (λ (n : ℕ). eqb n 1) e

both_false : (a b : Bool) → b ≡ false → (a && b) ≡ false
both_false true b e = e
both_false false b e = refl

-- NEWEST, in the form in which the code has the powers
module _ (x lo hi top low : ℕ) (t : (top ≡ 2 ^ hi) × (0 < top)) (b : (low ≡ 2 ^ lo) × (0 < low)) where
  y : ℕ
  y = x % top

  same_digits : (q : ℕ) → q < hi → digit y q ≡ digit x q
  unfolding y
  same_digits q h = ap (λ (n : ℕ). digit (x % n) q) t.0 ∙ digit-mod x hi q h

  y-small : y < 2 ^ hi
  unfolding y
  y-small = rw t.0 (mod-lt x (pow_pos hi))

  -- what is left below the low end shows that no digit of the range is set
  pub newest-none : x % top < low → None ≡ newest_bit x lo hi
  unfolding newest_bit y
  newest-none h =
      sym (greatest-none hi (λ q. leb lo q && bit x q) (λ q c. go q c (dec_le lo q)))
    where
      go : (q : ℕ) → q < hi → Dec (lo ≤ q) → (leb lo q && bit x q) ≡ false
      go q c (yes a) =
          both_false (leb lo q) (bit x q)
          (bit-none x q (sym (same_digits q c) ∙ digit-past y lo q (rw (sym b.0) h) a))
      go q c (no a) = ap (λ (z : Bool). z && bit x q) (lt-leb lo q (omega arith))

  -- and otherwise its top digit is the newest
  top_digit : (j : ℕ) → 2 ^ j ≤ y → y < 2 ^ suc j → digit y j ≡ 1
  unfolding digit
  top_digit j a c =
      ap (λ (n : ℕ). n % 2)
      (div-eq_of_lt-le {k = 1} (2 ^ j) {m = y} (omega (arith, one-mul (2 ^ j), a)) (omega (arith, pow-succ' 2 j, c)))

  pow-order : (i j : ℕ) → 2 ^ i ≤ y → y < 2 ^ j → i < j
  pow-order i j a c = elim (dec_lt i j) [ yes h ↦ h | no h ↦ absurd (omega (arith, pow_mono {i = j} {j = i} (omega arith))) ]

  at_top : (j : ℕ) → 2 ^ j ≤ y → y < 2 ^ suc j → low ≤ y → newest_bit x lo hi ≡ Some j
  unfolding newest_bit
  at_top j a c h =
      let below : j < hi = pow-order j hi a y-small in
      let above : lo < suc j = pow-order lo (suc j) (subst (λ (n : ℕ). n ≤ y) b.0 h) c in
      greatest-at hi (λ q. leb lo q && bit x q) j below
      (ap₂ (λ (u v : Bool). u && v) (le-leb lo j (omega arith)) (bit-one x j (sym (same_digits j below) ∙ top_digit j a c)))
      (λ q d e. both_false (leb lo q) (bit x q) (bit-none x q (sym (same_digits q e) ∙ digit-past y (suc j) q c d)))

  pub newest-at : low ≤ x % top → hi < 32 → Some (31 - count_leading_zeros 32 (x % top)) ≡ newest_bit x lo hi
  unfolding y
  newest-at h few =
      let found = leading_top 32 y (omega (arith, b.1)) (omega (arith, y-small, pow_mono {i = hi} {j = 32} (omega arith))) in
      let e : 31 - count_leading_zeros 32 y ≡ found.0 = omega (arith, found.1) in
      ap Some e ∙ sym (at_top found.0 found.2 found.3 h)

  pub newest-fits : low ≤ x % top → hi < 32 → count_leading_zeros 32 (x % top) ≤ 31
  unfolding y
  newest-fits h few =
      let found = leading_top 32 y (omega (arith, b.1)) (omega (arith, y-small, pow_mono {i = hi} {j = 32} (omega arith))) in
      omega (arith, found.1)
