-- Searching written bits: a run of one group, a working area, and area after area down from a start. Assumes nothing.
use Rattle.std.specs.Prelude.{Option, Some, None}
use mathlib.Core.Path.{◌≡◌, refl, sym, ◌∙◌, ap, ap₂}
use mathlib.Core.Bool.{Bool, true, false, ◌&&◌}
use Prim.Native.Nat.{ℕ, ◌+◌, ◌-◌, ◌/◌, ◌%◌, ◌≤◌, ◌<◌, min}
use native.Mathlib.Decide.{dec_le, dec_lt}
use native.Mathlib.Omega.{arith}
use borrow.Author.Tests.{leb-true, le-leb, lt-leb, lt-ltb, le-ltb}
use lib.Dec.{leb, ltb}
use lib.ListN.{get_or}
use Rattle.rules.proofs.Tests.{both_true}
use Rattle.frames.specs.Circle.{frame_at}
use Rattle.numbers.specs.Digits.{bit, newest_bit}
use Rattle.numbers.specs.Search.{greatest}
use Rattle.numbers.proofs.Digits.{bit-none, digit-below, digit-past}
use Rattle.numbers.proofs.Search.{greatest-none, greatest-at, greatest-same, greatest-nothing, Greatest, greatest-found, greatest-part-at, greatest-part-none}
use Rattle.written.specs.Bits.{Written, Asks, place_of, bound_of, standing, effective, newest_run, newest_in_area, newest_from, down_of}
use Rattle.written.proofs.Areas.{frame-down, down-area, down-place}

pub none_of : (a b : Bool) → (a ≡ true → b ≡ false) → (a && b) ≡ false
none_of true b h = h refl
none_of false b h = refl

pub both_of : (a b : Bool) → a ≡ true → b ≡ true → (a && b) ≡ true
both_of a b p q = ap₂ (λ (x y : Bool). x && y) p q

pub standing-none : (g p k x : ℕ) → bit g p ≡ false → standing g p k x ≡ false
unfolding standing
standing-none g p k x e = ap (λ (t : Bool). t && ltb k x) e

-- a group without bits has none that stands
pub none-stands : (g p k x : ℕ) → g % 65536 ≡ 0 → p < 16 → standing g p k x ≡ false
none-stands g p k x e h =
    standing-none g p k x (bit-none g p (digit-below g 0 16 p e h ∙ digit-past 0 0 p (omega arith) (omega arith)))

lt-min : (x a b : ℕ) → x < a → x < b → x < min a b
lt-min x a b h k = omega arith

-- the position of an index of the run lies among the digits looked at
run-low : (p i j l : ℕ) → l ≡ min p i → i - min p i ≤ j → p - l ≤ j + p - i
run-low p i j l e a = omega arith

run-top : (bound p i j m t : ℕ) → m ≡ bound + p - i → t ≡ min m (p + 1) → i - min p i ≤ j → j < i + 1 → j < bound → j + p - i < t
run-top bound p i j m t em et a b c =
    let reach : i ≤ j + p = omega arith in
    let d : j + p - i < m = omega (arith, reach) in
    let e : j + p - i < p + 1 = omega (arith, reach) in
    rw et (lt-min (j + p - i) m (p + 1) d e)

-- One group, from position p with index i down: the digits below the bound, as far as the run goes.
module _ (g bound p i l m t : ℕ) (el : l ≡ min p i) (em : m ≡ bound + p - i) (et : t ≡ min m (p + 1)) where
  pub run_none : newest_bit g (p - l) t ≡ None → newest_run g bound p i ≡ None
  unfolding newest_bit newest_run standing
  run_none e =
      greatest-none (i + 1) (λ k. leb (i - min p i) k && standing g (k + p - i) k bound)
      (λ k b. none_of (leb (i - min p i) k) _ (λ a. stands k b (leb-true (i - min p i) k a) (dec_lt k bound)))
    where
      stands : (k : ℕ) → k < i + 1 → i - min p i ≤ k → Dec (k < bound) → (bit g (k + p - i) && ltb k bound) ≡ false
      stands k b a (yes h) =
          let q : ℕ = k + p - i in
          let none = greatest-nothing t (λ q. leb (p - l) q && bit g q) e q (run-top bound p i k m t em et a b h) in
          ap (λ (z : Bool). z && ltb k bound) (sym (ap (λ (z : Bool). z && bit g q) (le-leb (p - l) q (run-low p i k l el a))) ∙ none)
      stands k b a (no h) = none_of (bit g (k + p - i)) (ltb k bound) (λ z. le-ltb k bound (omega arith))

  -- where the run's newest digit lies
  pub record Within (q : ℕ) : Type 0 where
    pub low : p ≤ q + l
    pub high : q ≤ p
    pub bound_above : i + q < bound + p

  pub run-within : (q : ℕ) → newest_bit g (p - l) t ≡ Some q → Within q
  unfolding newest_bit
  run-within q e =
      let h = greatest-found t (λ q. leb (p - l) q && bit g q) q e in
      let a = leb-true (p - l) q (both_true (leb (p - l) q) (bit g q) h.passes).0 in
      record { low = omega arith; high = omega (arith, h.below); bound_above = omega (arith, h.below) }

  pub run_at : (q : ℕ) → newest_bit g (p - l) t ≡ Some q → newest_run g bound p i ≡ Some (i + q - p)
  unfolding newest_bit newest_run standing
  run_at q e =
      let h = greatest-found t (λ q. leb (p - l) q && bit g q) q e in
      let w = run-within q e in
      let k : ℕ = i + q - p in
      let back : k + p - i ≡ q = omega (arith, w.low, w.high) in
      greatest-at (i + 1) (λ k. leb (i - min p i) k && standing g (k + p - i) k bound) k (omega (arith, w.high))
      (both_of _ _ (le-leb (i - min p i) k (omega (arith, w.low, w.high)))
      (both_of _ _ (ap (bit g) back ∙ (both_true (leb (p - l) q) (bit g q) h.passes).1)
      (lt-ltb k bound (omega (arith, w.low, w.high, w.bound_above)))))
      (λ j b c. none_of (leb (i - min p i) j) _ (λ a. stands j b c (leb-true (i - min p i) j a) (dec_lt j bound) h w))
    where
      stands : (j : ℕ) → i + q - p < j → j < i + 1 → i - min p i ≤ j → Dec (j < bound) → Greatest t (λ q. leb (p - l) q && bit g q) q → Within q
          → (bit g (j + p - i) && ltb j bound) ≡ false
      stands j b c a (yes d) h w =
          let r : ℕ = j + p - i in
          let none = h.above r (omega (arith, w.low, w.high)) (run-top bound p i j m t em et a c d) in
          ap (λ (z : Bool). z && ltb j bound) (sym (ap (λ (z : Bool). z && bit g r) (le-leb (p - l) r (run-low p i j l el a))) ∙ none)
      stands j b c a (no d) h w = none_of (bit g (j + p - i)) (ltb j bound) (λ z. le-ltb j bound (omega arith))

-- The same in the form in which the code has it.
module _ (g bound p i l m t : ℕ) (r : Option ℕ) where
  pub run-told-at : (q : ℕ) → l ≡ min p i → m ≡ bound + p - i → t ≡ min m (p + 1) → r ≡ newest_bit g (p - l) t → r ≡ Some q
      → Some (i + q - p) ≡ newest_run g bound p i
  run-told-at q el em et e h = sym (run_at g bound p i l m t el em et q (sym e ∙ h))

  pub run-told-none : l ≡ min p i → m ≡ bound + p - i → t ≡ min m (p + 1) → r ≡ newest_bit g (p - l) t → r ≡ None
      → None ≡ newest_run g bound p i
  run-told-none el em et e h = sym (run_none g bound p i l m t el em et (sym e ∙ h))

  pub run-told-within : (q : ℕ) → l ≡ min p i → m ≡ bound + p - i → t ≡ min m (p + 1) → r ≡ newest_bit g (p - l) t → r ≡ Some q
      → (p ≤ i + q) × (q ≤ p)
  run-told-within q el em et e h =
      let w = run-within g bound p i l m t el em et q (sym e ∙ h) in
      (omega (arith, w.low), w.high)

-- A working area: its frames down from an index have the positions down from the index's.
module _ (w : Written) (l i : ℕ) (a : Asks w l i) where
  abbrev f : ℕ
  f = frame_at w.frames w.omf i

  pub area-effective : (g : ℕ) → g ≡ get_or w.groups (place_of w.lines (f / 16) l) 0
      → (k : ℕ) → k ≤ i → i - min (f % 16) i ≤ k → effective w k l ≡ standing g (k + f % 16 - i) k (bound_of w.history g)
  unfolding effective
  area-effective g eg k b c =
      let d = frame-down w.frames w.omf a.lent.omf_below i k a.index_below b (omega arith) in
      let same = down-area f (frame_at w.frames w.omf k) (i - k) d (omega arith) in
      let place : frame_at w.frames w.omf k % 16 ≡ k + f % 16 - i = omega (arith, down-place f (frame_at w.frames w.omf k) (i - k) d (omega arith)) in
      let group : get_or w.groups (place_of w.lines (frame_at w.frames w.omf k / 16) l) 0 ≡ g =
      ap (λ (z : ℕ). get_or w.groups (place_of w.lines z l) 0) same ∙ sym eg
      in
      ap₂ (λ (x p : ℕ). standing x p k (bound_of w.history x)) group place

  pub area-is : (z g b : ℕ) (r : Option ℕ) → z ≡ frame_at w.frames w.omf i → g ≡ get_or w.groups (place_of w.lines (z / 16) l) 0
      → (b ≡ bound_of w.history g) × (b < 65536) → r ≡ newest_run g b (z % 16) i → r ≡ newest_in_area w l i
  unfolding newest_run newest_in_area down_of
  area-is z g b r ez eg eb er =
      er ∙ (ap₂ (λ (p x : ℕ). greatest (i + 1) (λ k. leb (i - min p i) k && standing g (k + p - i) k x)) (ap (λ (y : ℕ). y % 16) ez) eb.0
      ∙ greatest-same (i + 1) _ _ (λ k c. same k c (dec_le (i - min (f % 16) i) k)))
    where
      same : (k : ℕ) → k < i + 1 → Dec (i - min (f % 16) i ≤ k)
          → (leb (i - min (f % 16) i) k && standing g (k + f % 16 - i) k (bound_of w.history g)) ≡ (leb (i - min (f % 16) i) k && effective w k l)
      same k c (yes d) =
          ap (λ (t : Bool). leb (i - min (f % 16) i) k && t)
          (sym (area-effective g (eg ∙ ap (λ (y : ℕ). get_or w.groups (place_of w.lines (y / 16) l) 0) ez) k (omega arith) d))
      same k c (no d) =
          ap (λ (t : Bool). t && standing g (k + f % 16 - i) k (bound_of w.history g)) (lt-leb (i - min (f % 16) i) k (omega arith))
          ∙ sym (ap (λ (t : Bool). t && effective w k l) (lt-leb (i - min (f % 16) i) k (omega arith)))

  pub area-none : (z g : ℕ) → z ≡ frame_at w.frames w.omf i → g ≡ get_or w.groups (place_of w.lines (z / 16) l) 0 → g % 65536 ≡ 0
      → None ≡ newest_in_area w l i
  unfolding newest_in_area down_of
  area-none z g ez eg e =
      sym (greatest-none (i + 1) _ (λ k c. none_of (leb (i - min (f % 16) i) k) _ (λ d. none k c (leb-true (i - min (f % 16) i) k d))))
    where
      none : (k : ℕ) → k < i + 1 → i - min (f % 16) i ≤ k → effective w k l ≡ false
      none k c d =
          area-effective g (eg ∙ ap (λ (y : ℕ). get_or w.groups (place_of w.lines (y / 16) l) 0) ez) k (omega arith) d
          ∙ none-stands g (k + f % 16 - i) k _ e (omega arith)

-- Area after area, down from a start: what is found in an area is found from the start, and what is not is found further down.
module _ (w : Written) (l start i : ℕ) (now : newest_from w l start ≡ newest_from w l i) where
  pub from_at : (r : Option ℕ) (j : ℕ) → r ≡ newest_in_area w l i → r ≡ Some j → Some j ≡ newest_from w l start
  unfolding newest_from newest_in_area
  from_at r j e h =
      sym (now ∙ greatest-part-at (i - down_of w.frames w.omf i) (i + 1) (λ k. effective w k l) j (sym e ∙ h))

  from-below : (r : Option ℕ) → r ≡ newest_in_area w l i → r ≡ None
      → newest_from w l start ≡ greatest (i - down_of w.frames w.omf i) (λ k. effective w k l)
  unfolding newest_from newest_in_area
  from-below r e h =
      now ∙ greatest-part-none (i - down_of w.frames w.omf i) (i + 1) (λ k. effective w k l) (omega arith) (sym e ∙ h)

  pub from-none : (r : Option ℕ) (down : ℕ) → r ≡ newest_in_area w l i → r ≡ None → down ≡ down_of w.frames w.omf i → i ≤ down
      → None ≡ newest_from w l start
  unfolding greatest
  from-none r down e h d b =
      let z : i - down_of w.frames w.omf i ≡ 0 = omega arith in
      sym (from-below r e h ∙ ap (λ (n : ℕ). greatest n (λ k. effective w k l)) z)

  pub from-again : (r : Option ℕ) (down : ℕ) → r ≡ newest_in_area w l i → r ≡ None → down ≡ down_of w.frames w.omf i → down < i
      → newest_from w l start ≡ newest_from w l (i - down - 1)
  unfolding newest_from
  from-again r down e h d b =
      let z : i - down_of w.frames w.omf i ≡ i - down - 1 + 1 = omega arith in
      from-below r e h ∙ ap (λ (n : ℕ). greatest n (λ k. effective w k l)) z
