-- Laws of a search from the top down. Assumes nothing.
use Rattle.std.specs.Prelude.{Option, Some, None}
use mathlib.Core.Path.{◌≡◌, refl, sym, ◌∙◌, ap, ap₂}
use mathlib.Core.Bool.{Bool, true, false, cond, ◌&&◌}
use Prim.Native.Nat.{ℕ, zero, suc, ◌≤◌, ◌<◌}
use native.Mathlib.Decide.{ℕ_discrete}
use native.Mathlib.Omega.{arith}
use borrow.Author.Tests.{leb-true, le-leb}
use lib.Dec.{leb}
use Rattle.rules.proofs.Tests.{both_true}
use Rattle.numbers.specs.Search.{greatest}

pub greatest-none : (n : ℕ) (f : ℕ → Bool) → ((k : ℕ) → k < n → f k ≡ false) → greatest n f ≡ None
unfolding greatest
greatest-none zero f h = refl
greatest-none (suc n) f h =
    ap (λ (b : Bool). cond b (Some n) (greatest n f)) (h n (omega arith)) ∙ greatest-none n f (λ k b. h k (omega arith))

-- numbers at the top that fail the test may be left out
pub greatest-skip : (m n : ℕ) (f : ℕ → Bool) → m ≤ n → ((k : ℕ) → m ≤ k → k < n → f k ≡ false) → greatest n f ≡ greatest m f
unfolding greatest
greatest-skip m zero f h none =
    let e : 0 ≡ m = omega arith in
    ap (λ (k : ℕ). greatest k f) e
greatest-skip m (suc n) f h none = go (ℕ_discrete m (suc n)) (λ b. greatest-skip m n f b (λ k a c. none k a (omega arith)))
  where
    go : Dec (m ≡ suc n) → (m ≤ n → greatest n f ≡ greatest m f) → greatest (suc n) f ≡ greatest m f
    go (yes e) ih = ap (λ (k : ℕ). greatest k f) (sym e)
    go (no d) ih =
        ap (λ (b : Bool). cond b (Some n) (greatest n f)) (none n (omega arith) (omega arith)) ∙ ih (omega arith)

pub greatest-at : (n : ℕ) (f : ℕ → Bool) (j : ℕ) → j < n → f j ≡ true → ((k : ℕ) → j < k → k < n → f k ≡ false) → greatest n f ≡ Some j
unfolding greatest
greatest-at n f j b e none =
    greatest-skip (suc j) n f b (λ k a c. none k a c) ∙ ap (λ (t : Bool). cond t (Some j) (greatest j f)) e

pub greatest-same : (n : ℕ) (f g : ℕ → Bool) → ((k : ℕ) → k < n → f k ≡ g k) → greatest n f ≡ greatest n g
unfolding greatest
greatest-same zero f g h = refl
greatest-same (suc n) f g h =
    ap₂ (λ (b : Bool) (r : Option ℕ). cond b (Some n) r) (h n (omega arith)) (greatest-same n f g (λ k b. h k (omega arith)))

-- what a search that found nothing, or something, has shown
pub greatest-nothing : (n : ℕ) (f : ℕ → Bool) → greatest n f ≡ None → (k : ℕ) → k < n → f k ≡ false
unfolding greatest
greatest-nothing zero f e k b = absurd (omega arith)
greatest-nothing (suc n) f e k b = go (f n) refl e (greatest-nothing n f)
  where
    go : (t : Bool) → f n ≡ t → cond t (Some n) (greatest n f) ≡ None → (greatest n f ≡ None → (k : ℕ) → k < n → f k ≡ false) → f k ≡ false
    go true p e ih = let z : ◌≡◌ {A = ℕ} 0 1 = cc in absurd (omega arith)
    go false p e ih = elim (ℕ_discrete k n) [ yes q ↦ ap f q ∙ p | no d ↦ ih e k (omega arith) ]

pub record Greatest (n : ℕ) (f : ℕ → Bool) (j : ℕ) : Type 0 where
  pub below : j < n
  pub passes : f j ≡ true
  pub above : (k : ℕ) → j < k → k < n → f k ≡ false

pub greatest-found : (n : ℕ) (f : ℕ → Bool) (j : ℕ) → greatest n f ≡ Some j → Greatest n f j
unfolding greatest
greatest-found zero f j e = let z : ◌≡◌ {A = ℕ} 0 1 = cc in absurd (omega arith)
greatest-found (suc n) f j e = go (f n) refl e (greatest-found n f j)
  where
    go : (t : Bool) → f n ≡ t → cond t (Some n) (greatest n f) ≡ Some j → (greatest n f ≡ Some j → Greatest n f j) → Greatest (suc n) f j
    go true p e ih =
        let q : n ≡ j = cc in
        record { below = omega arith; passes = ap f (sym q) ∙ p; above = λ k a b. absurd (omega arith) }
    go false p e ih =
        let h = ih e in
        record {
          below = omega (arith, h.below);
          passes = h.passes;
          above = λ k a b. elim (ℕ_discrete k n) [ yes q ↦ ap f q ∙ p | no d ↦ h.above k a (omega arith) ];
        }

-- A search of the numbers from m on settles the whole search, or leaves the numbers below m.
pub greatest-part-at : (m n : ℕ) (f : ℕ → Bool) (j : ℕ) → greatest n (λ k. leb m k && f k) ≡ Some j → greatest n f ≡ Some j
greatest-part-at m n f j e =
    let h = greatest-found n (λ k. leb m k && f k) j e in
    let t = both_true (leb m j) (f j) h.passes in
    let a = leb-true m j t.0 in
    greatest-at n f j h.below t.1 (λ k b c. sym (ap (λ (z : Bool). z && f k) (le-leb m k (omega arith))) ∙ h.above k b c)

pub greatest-part-none : (m n : ℕ) (f : ℕ → Bool) → m ≤ n → greatest n (λ k. leb m k && f k) ≡ None → greatest n f ≡ greatest m f
greatest-part-none m n f b e =
    greatest-skip m n f b
    (λ k a c. sym (ap (λ (z : Bool). z && f k) (le-leb m k a)) ∙ greatest-nothing n (λ k. leb m k && f k) e k c)
