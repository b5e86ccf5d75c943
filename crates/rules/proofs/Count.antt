-- Counting blocks and pages. Assumes nothing.
use mathlib.Core.Path.{◌≡◌, refl, sym, ◌∙◌, ap, ap₂}
use mathlib.Core.Bool.{Bool, true, false, cond, ◌||◌, or-true}
use mathlib.Core.Logic.{◌≢◌}
use Prim.Native.Nat.{ℕ, zero, suc, ◌+◌, ◌-◌, ◌*◌, ◌/◌, ◌≤◌, ◌<◌}
use native.Mathlib.Nat.{zero-add, suc-add, suc-sub-suc, sub-zero, zero-sub}
use native.Mathlib.Decide.{ℕ_discrete}
use native.Mathlib.Omega.{arith}
use Rattle.rules.specs.Seen.{any, count, needs}
use Rattle.rules.specs.Figure2.{pages_of}

pub any_same : (n : ℕ) (f g : ℕ → Bool) → ((i : ℕ) → i < n → f i ≡ g i) → any n f ≡ any n g
unfolding any
any_same zero f g h = refl
any_same (suc n) f g h = ap₂ (λ (a b : Bool). a || b) (h n (omega arith)) (any_same n f g (λ i b. h i (omega arith)))

pub any-true : (n : ℕ) (f : ℕ → Bool) (i : ℕ) → i < n → f i ≡ true → any n f ≡ true
unfolding any
any-true zero f i b e = absurd (omega arith)
any-true (suc n) f i b e = go (ℕ_discrete i n) (λ d. any-true n f i (omega arith) e)
  where
    go : Dec (i ≡ n) → (i ≢ n → any n f ≡ true) → (f n || any n f) ≡ true
    go (yes q) ih = ap (λ (x : Bool). x || any n f) (ap f (sym q) ∙ e)
    go (no d) ih = ap (λ (x : Bool). f n || x) (ih d) ∙ or-true (f n)

pub any_none : (n : ℕ) (f : ℕ → Bool) → ((i : ℕ) → i < n → f i ≡ false) → any n f ≡ false
unfolding any
any_none zero f h = refl
any_none (suc n) f h = ap₂ (λ (a b : Bool). a || b) (h n (omega arith)) (any_none n f (λ i b. h i (omega arith)))

pub any_false : (n : ℕ) (f : ℕ → Bool) → any n f ≡ false → (i : ℕ) → i < n → f i ≡ false
any_false n f e i b = go (f i) refl
  where
    go : (t : Bool) → f i ≡ t → t ≡ false
    go true p = absurd (mathlib.Core.Bool.false≢true (sym e ∙ any-true n f i b p))
    go false p = refl

pub any-first : (n : ℕ) (f : ℕ → Bool) → any (suc n) f ≡ (f 0 || any n (λ j. f (suc j)))
unfolding any
any-first zero f = refl
any-first (suc n) f =
    ap (λ (b : Bool). f (suc n) || b) (any-first n f) ∙ or-exchange (f (suc n)) (f 0) (any n (λ j. f (suc j)))
  where
    or-exchange : (a b c : Bool) → (a || (b || c)) ≡ (b || (a || c))
    or-exchange true true c = refl
    or-exchange true false c = refl
    or-exchange false b c = refl

pub any_found : (n : ℕ) (f : ℕ → Bool) → any n f ≡ true → (i : ℕ) × (i < n) × (f i ≡ true)
unfolding any
any_found zero f e = absurd (mathlib.Core.Bool.false≢true e)
any_found (suc n) f e = go (f n) refl e (any_found n f)
  where
    go : (t : Bool) → f n ≡ t → (t || any n f) ≡ true → (any n f ≡ true → (i : ℕ) × (i < n) × (f i ≡ true)) → (i : ℕ) × (i < suc n) × (f i ≡ true)
    go true p e ih = (n, omega arith, p)
    go false p e ih = let h = ih e in (h.0, omega (arith, h.1), h.2)

pub count_none : (n : ℕ) (f : ℕ → Bool) → ((i : ℕ) → i < n → f i ≡ false) → count n f ≡ 0
unfolding count
count_none zero f h = refl
count_none (suc n) f h =
    ap (λ (b : Bool). cond b (suc (count n f)) (count n f)) (h n (omega arith)) ∙ count_none n f (λ i b. h i (omega arith))

pub count_same : (n : ℕ) (f g : ℕ → Bool) → ((i : ℕ) → i < n → f i ≡ g i) → count n f ≡ count n g
unfolding count
count_same zero f g h = refl
count_same (suc n) f g h =
    ap₂ (λ (b : Bool) (x : ℕ). cond b (suc x) x) (h n (omega arith)) (count_same n f g (λ i b. h i (omega arith)))

-- two tests that differ at one number at most
count-off : (n : ℕ) (f g : ℕ → Bool) (k : ℕ) → ((i : ℕ) → i ≢ k → f i ≡ g i) → count n g ≤ count n f + 1
unfolding count
count-off zero f g k h = omega arith
count-off (suc n) f g k h = go (ℕ_discrete n k) (f n) (g n) refl refl (count-off n f g k h)
  where
    step : (a b : Bool) → a ≡ b → count n g ≤ count n f + 1 → cond b (suc (count n g)) (count n g) ≤ cond a (suc (count n f)) (count n f) + 1
    step true true e ih = omega arith
    step true false e ih = omega arith
    step false true e ih = absurd (mathlib.Core.Bool.false≢true e)
    step false false e ih = ih

    same : n ≡ k → count n f ≡ count n g
    same e = count_same n f g (λ i b. h i (omega arith))

    differ : (a b : Bool) → count n f ≡ count n g → cond b (suc (count n g)) (count n g) ≤ cond a (suc (count n f)) (count n f) + 1
    differ true true e = omega arith
    differ true false e = omega arith
    differ false true e = omega arith
    differ false false e = omega arith

    go : Dec (n ≡ k) → (a b : Bool) → f n ≡ a → g n ≡ b → count n g ≤ count n f + 1
        → cond b (suc (count n g)) (count n g) ≤ cond a (suc (count n f)) (count n f) + 1
    go (yes e) a b p q ih = differ a b (same e)
    go (no d) a b p q ih = step a b (sym p ∙ (h n d ∙ q)) ih

needs-none : (row : ℕ → Bool) → ((l : ℕ) → row l ≡ false) → (b : ℕ) → needs row b ≡ false
unfolding needs
needs-none row h b = any_none 8 _ (λ i c. h (b * 8 + i))

pub blocks-none : (n : ℕ) (row : ℕ → Bool) → ((l : ℕ) → row l ≡ false) → count n (needs row) ≡ 0
blocks-none n row h = count_none n (needs row) (λ b c. needs-none row h b)

-- One more line written: its block is needed, and no other block changes.
module _ (row more : ℕ → Bool) (l : ℕ) (now : more l ≡ true) (rest : (k : ℕ) → k ≢ l → row k ≡ more k) where
  needs-now : needs more (l / 8) ≡ true
  unfolding needs
  needs-now = any-true 8 _ (l - l / 8 * 8) (omega arith) (ap more (omega arith) ∙ now)

  needs-rest : (b : ℕ) → b ≢ l / 8 → needs row b ≡ needs more b
  unfolding needs
  needs-rest b d = any_same 8 _ _ (λ i h. rest (b * 8 + i) (omega arith))

  pub blocks_more : (n : ℕ) → count n (needs more) ≤ count n (needs row) + 1
  blocks_more n = count-off n (needs row) (needs more) (l / 8) needs-rest

  pub blocks-same : (n : ℕ) → needs row (l / 8) ≡ true → count n (needs row) ≡ count n (needs more)
  blocks-same n already = count_same n (needs row) (needs more) (λ b h. go b (ℕ_discrete b (l / 8)))
    where
      go : (b : ℕ) → Dec (b ≡ l / 8) → needs row b ≡ needs more b
      go b (yes e) = ap (needs row) e ∙ (already ∙ (sym needs-now ∙ ap (needs more) (sym e)))
      go b (no d) = needs-rest b d

module _ (blocks : ℕ) where
  pub pages-same : (n : ℕ) (v w : ℕ → ℕ → Bool) → ((j : ℕ) → j < n → v j ≡ w j) → pages_of blocks n v ≡ pages_of blocks n w
  unfolding pages_of
  pages-same zero v w h = refl
  pages-same (suc n) v w h =
      ap₂ (λ (row : ℕ → Bool) (x : ℕ). count blocks (needs row) + x) (h 0 (omega arith))
      (pages-same n (λ j. v (suc j)) (λ j. w (suc j)) (λ j b. h (suc j) (omega arith)))

  -- fewer frames need no more pages: the newest m,
  pub pages-newest : (m n : ℕ) (w : ℕ → ℕ → Bool) → m ≤ n → pages_of blocks m w ≤ pages_of blocks n w
  unfolding pages_of
  pages-newest zero n w h = omega arith
  pages-newest (suc m) zero w h = absurd (omega arith)
  pages-newest (suc m) (suc n) w h = omega (arith, pages-newest m n (λ j. w (suc j)) (omega arith))

  -- or those from frame k on
  pub pages-oldest : (k n : ℕ) (w : ℕ → ℕ → Bool) → pages_of blocks (n - k) (λ j. w (k + j)) ≤ pages_of blocks n w
  unfolding pages_of
  pages-oldest zero n w = rw sub-zero (simp zero-add (omega arith))
  pages-oldest (suc k) zero w = rw zero-sub (omega arith)
  pages-oldest (suc k) (suc n) w =
      rw suc-sub-suc (simp suc-add (omega (arith, pages-oldest k n (λ j. w (suc j)))))
