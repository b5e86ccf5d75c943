-- Whether a run, a line or a block has a standing bit in a window of indexes. Assumes nothing.
use Rattle.std.specs.Prelude.{Option, Some, None}
use Rattle.std.specs.Option.{is_some}
use mathlib.Core.Path.{◌≡◌, refl, sym, ◌∙◌, ap, ap₂}
use mathlib.Core.Bool.{Bool, true, false, ◌&&◌}
use Prim.Native.Nat.{ℕ, ◌+◌, ◌-◌, ◌*◌, ◌/◌, ◌%◌, ◌≤◌, ◌<◌, min}
use native.Mathlib.Nat.{le_antisymm}
use native.Mathlib.Decide.{dec_le, dec_lt, ℕ_discrete}
use native.Mathlib.Omega.{arith}
use borrow.Author.Tests.{leb-true, le-leb, lt-leb, lt-ltb, le-ltb}
use lib.Dec.{leb, ltb}
use lib.ListN.{get_or}
use Rattle.rules.specs.Seen.{needs}
use Rattle.rules.proofs.Count.{any_same, any-true, any_none, any_false, any_found}
use Rattle.rules.proofs.Tests.{both_true}
use Rattle.frames.specs.Circle.{frame_at}
use Rattle.numbers.specs.Digits.{bit, newest_bit}
use Rattle.numbers.proofs.Search.{greatest-nothing, greatest-found}
use Rattle.written.specs.Bits.{Written, Asks, place_of, bound_of, standing, effective, any_from, stands_in, run_has, block_has, up_of}
use Rattle.written.proofs.Areas.{frame-up, up-area, up-place}
use Rattle.written.proofs.Runs.{none_of, both_of, none-stands}

-- A window with and without a number that passes.
pub from-true : (from end k : ℕ) (f : ℕ → Bool) → from ≤ k → k < end → f k ≡ true → any_from from end f ≡ true
unfolding any_from
from-true from end k f a b e = any-true end (λ i. leb from i && f i) k b (both_of (leb from k) (f k) (le-leb from k a) e)

pub from_false : (from end : ℕ) (f : ℕ → Bool) → ((k : ℕ) → from ≤ k → k < end → f k ≡ false) → any_from from end f ≡ false
unfolding any_from
from_false from end f h = any_none end (λ i. leb from i && f i) (λ k b. none_of (leb from k) (f k) (λ a. h k (leb-true from k a) b))

pub false-from : (from end : ℕ) (f : ℕ → Bool) → any_from from end f ≡ false → (k : ℕ) → from ≤ k → k < end → f k ≡ false
unfolding any_from
false-from from end f e k a b =
    sym (ap (λ (t : Bool). t && f k) (le-leb from k a)) ∙ any_false end (λ i. leb from i && f i) e k b

pub true-from : (from end : ℕ) (f : ℕ → Bool) → any_from from end f ≡ true → (k : ℕ) × (from ≤ k) × (k < end) × (f k ≡ true)
unfolding any_from
true-from from end f e =
    let h = any_found end (λ i. leb from i && f i) e in
    let t = both_true (leb from h.0) (f h.0) h.2 in
    (h.0, leb-true from h.0 t.0, h.1, t.1)

from-same : (from end : ℕ) (f g : ℕ → Bool) → ((k : ℕ) → from ≤ k → k < end → f k ≡ g k) → any_from from end f ≡ any_from from end g
unfolding any_from
from-same from end f g h = any_same end _ _ (λ k b. same k b (dec_le from k))
  where
    same : (k : ℕ) → k < end → Dec (from ≤ k) → (leb from k && f k) ≡ (leb from k && g k)
    same k b (yes a) = ap (λ (t : Bool). leb from k && t) (h k a b)
    same k b (no a) =
        ap (λ (t : Bool). t && f k) (lt-leb from k (omega arith)) ∙ sym (ap (λ (t : Bool). t && g k) (lt-leb from k (omega arith)))

-- One group, from position p with index i up, in the form in which the code has it.
module _ (g bound p i up m t : ℕ) (r : Option ℕ) where
  pub stands_at : (q : ℕ) → m ≡ bound + p - i → t ≡ min (p + up) m → r ≡ newest_bit g p t → r ≡ Some q → true ≡ stands_in g bound p i up
  unfolding newest_bit stands_in standing
  stands_at q em et e h =
      let found = greatest-found t (λ q. leb p q && bit g q) q (sym e ∙ h) in
      let w = both_true (leb p q) (bit g q) found.passes in
      let a = leb-true p q w.0 in
      let b : q < p + up = omega (arith, found.below) in
      let c : i + q < bound + p = omega (arith, found.below) in
      let k : ℕ = i + q - p in
      let back : k + p - i ≡ q = omega arith in
      sym (from-true i (i + up) k (λ k. standing g (k + p - i) k bound) (omega arith) (omega arith)
      (both_of _ _ (ap (bit g) back ∙ w.1) (lt-ltb k bound (omega arith))))

  pub stands-none : m ≡ bound + p - i → t ≡ min (p + up) m → r ≡ newest_bit g p t → r ≡ None → false ≡ stands_in g bound p i up
  unfolding newest_bit stands_in standing
  stands-none em et e h =
      sym (from_false i (i + up) (λ k. standing g (k + p - i) k bound) (λ k a b. none k a b (dec_lt k bound)))
    where
      none : (k : ℕ) → i ≤ k → k < i + up → Dec (k < bound) → (bit g (k + p - i) && ltb k bound) ≡ false
      none k a b (yes d) =
          let q : ℕ = k + p - i in
          let over : p ≤ q = omega arith in
          let under : q < p + up = omega arith in
          let under-bound : q < m = omega arith in
          let nothing = greatest-nothing t (λ q. leb p q && bit g q) (sym e ∙ h) q (omega (arith, et, under, under-bound)) in
          ap (λ (z : Bool). z && ltb k bound) (sym (ap (λ (z : Bool). z && bit g q) (le-leb p q over)) ∙ nothing)
      none k a b (no d) = none_of (bit g (k + p - i)) (ltb k bound) (λ z. le-ltb k bound (omega arith))

pub stands-told : (g bound p i up m t : ℕ) (r : Option ℕ) → m ≡ bound + p - i → t ≡ min (p + up) m → r ≡ newest_bit g p t
    → is_some r ≡ stands_in g bound p i up
stands-told g bound p i up m t (Some q) em et e = stands_at g bound p i up m t (Some q) q em et e refl
stands-told g bound p i up m t None em et e = stands-none g bound p i up m t None em et e refl

-- A working area from an index up.
module _ (w : Written) (l i end z g : ℕ) (a : Asks w l i × (end ≤ w.frames)) (ez : z ≡ frame_at w.frames w.omf i)
    (eg : g ≡ get_or w.groups (place_of w.lines (z / 16) l) 0) where
  run-effective : (k : ℕ) → i ≤ k → k < i + up_of w.frames w.omf i end
      → effective w k l ≡ standing g (k + z % 16 - i) k (bound_of w.history g)
  unfolding up_of effective
  run-effective k c d =
      let f : ℕ = frame_at w.frames w.omf i in
      let e = frame-up w.frames w.omf a.0.lent.omf_below a.0.lent.frames_by i k (omega (arith, a.1)) c (omega arith) in
      let area = up-area f (frame_at w.frames w.omf k) (k - i) e (omega arith) in
      let place : frame_at w.frames w.omf k % 16 ≡ k + z % 16 - i = omega (arith, up-place f (frame_at w.frames w.omf k) (k - i) e (omega arith), ez) in
      let group : get_or w.groups (place_of w.lines (frame_at w.frames w.omf k / 16) l) 0 ≡ g =
      ap (λ (y : ℕ). get_or w.groups (place_of w.lines y l) 0) (area ∙ ap (λ (y : ℕ). y / 16) (sym ez)) ∙ sym eg
      in
      ap₂ (λ (x p : ℕ). standing x p k (bound_of w.history x)) group place

  pub run_is : (b up : ℕ) (r : Bool) → (b ≡ bound_of w.history g) × (b < 65536) → up ≡ up_of w.frames w.omf i end
      → r ≡ stands_in g b (z % 16) i up → r ≡ run_has w l i end
  unfolding stands_in run_has
  run_is b up r eb eu er =
      er ∙ (ap₂ (λ (n x : ℕ). any_from i (i + n) (λ k. standing g (k + z % 16 - i) k x)) eu eb.0
      ∙ from-same i (i + up_of w.frames w.omf i end) _ _ (λ k c d. sym (run-effective k c d)))

  pub run-bare : g % 65536 ≡ 0 → false ≡ run_has w l i end
  unfolding run_has up_of
  run-bare e =
      sym (from_false i (i + up_of w.frames w.omf i end) _ (λ k c d. run-effective k c d ∙ none-stands g (k + z % 16 - i) k _ e (omega (arith, ez))))

-- a run stays within its group, and goes on
pub up_fits : (n omf i end z up : ℕ) → z ≡ frame_at n omf i → up ≡ up_of n omf i end → z % 16 + up ≤ 16
unfolding up_of
up_fits n omf i end z up ez eu = omega arith

pub up-some : (n omf i end up : ℕ) → i < end → up ≡ up_of n omf i end → (0 < up) × (i + up ≤ end)
unfolding up_of
up-some n omf i end up h eu = (omega arith, omega arith)

-- A line without an effective bit in a window, run after run,
abbrev pub NoneIn : Written → (line from end : ℕ) → Type 0
NoneIn w l from end = (k : ℕ) → from ≤ k → k < end → effective w k l ≡ false

pub none_more : (w : Written) (l from i end up : ℕ) (r : Bool) → NoneIn w l from i → r ≡ run_has w l i end → r ≡ false
    → up ≡ up_of w.frames w.omf i end → NoneIn w l from (i + up)
unfolding run_has
none_more w l from i end up r h e f eu k a b =
    elim (dec_lt k i) [
      | yes c ↦ h k a c
      | no c ↦ false-from i (i + up_of w.frames w.omf i end) (λ k. effective w k l) (sym e ∙ f) k (omega arith) (omega (arith, eu))
    ]

-- and the lines of a block, one after the other.
abbrev pub NoneBefore : Written → (block n from end : ℕ) → Type 0
NoneBefore w block n from end = (m : ℕ) → m < n → NoneIn w (block * 8 + m) from end

pub lines_more : (w : Written) (block n from end i : ℕ) → NoneBefore w block n from end → NoneIn w (block * 8 + n) from i → end ≤ i
    → NoneBefore w block (n + 1) from end
lines_more w block n from end i h g e m b k a c =
    elim (ℕ_discrete m n) [ yes q ↦ ap (λ (z : ℕ). effective w k (block * 8 + z)) q ∙ g k a (omega arith) | no d ↦ h m (omega arith) k a c ]

pub block_none : (w : Written) (block n from end : ℕ) → NoneBefore w block n from end → 8 ≤ n → false ≡ block_has w block from end
unfolding block_has
block_none w block n from end h b =
    sym (any_none 8 _ (λ m c. from_false from end (λ i. effective w i (block * 8 + m)) (h m (omega arith))))

pub block-found : (w : Written) (block n from end i : ℕ) (r : Bool) → n < 8 → from ≤ i → r ≡ run_has w (block * 8 + n) i end → r ≡ true
    → true ≡ block_has w block from end
unfolding block_has run_has up_of
block-found w block n from end i r b c e h =
    let found = true-from i (i + up_of w.frames w.omf i end) (λ k. effective w k (block * 8 + n)) (sym e ∙ h) in
    sym (any-true 8 _ n b (from-true from end found.0 (λ k. effective w k (block * 8 + n)) (omega (arith, found.1)) (omega (arith, found.2)) found.3))

-- The window of one frame,
pub one-frame : (w : Written) (block i j : ℕ) (r : Bool) → i ≡ j → r ≡ block_has w block i (i + 1) → r ≡ needs (effective w j) block
unfolding block_has needs
one-frame w block i j r d e = e ∙ (any_same 8 _ _ (λ n b. one (block * 8 + n)) ∙ ap (λ (z : ℕ). needs (effective w z) block) d)
  where
    one : (l : ℕ) → any_from i (i + 1) (λ k. effective w k l) ≡ effective w i l
    one l = go (effective w i l) refl
      where
        go : (t : Bool) → effective w i l ≡ t → any_from i (i + 1) (λ k. effective w k l) ≡ t
        go true p = from-true i (i + 1) i (λ k. effective w k l) (omega arith) (omega arith) p
        go false p =
            from_false i (i + 1) (λ k. effective w k l) (λ k a b. ap (λ (z : ℕ). effective w z l) (le_antisymm (omega arith) a) ∙ p)
