-- The places needed, counted round the circle, are the pages that Figure 2 counts frame by frame. Assumes nothing.
use mathlib.Core.Path.{◌≡◌, refl, sym, ◌∙◌, ap, ap₂}
use mathlib.Core.Bool.{Bool, true, false, cond, not, ◌&&◌, and-true, and-false, false≢true}
use Prim.Native.Nat.{ℕ, zero, suc, ◌+◌, ◌-◌, ◌*◌, ◌%◌, ◌≤◌, ◌<◌}
use native.Mathlib.Nat.{add-zero, add-suc, add_assoc, add_comm, suc-mul, zero-add}
use native.Mathlib.Omega.{arith}
use native.Mathlib.Decide.{ℕ_discrete}
use borrow.Author.Tests.{eq-eqb, ne_eqb}
use lib.Dec.{eqb}
use Rattle.rules.specs.Seen.{count, needs}
use Rattle.rules.specs.Figure2.{pages_of}
use Rattle.rules.proofs.Count.{count_same, count_none, any_none, pages-same}
use Rattle.rules.proofs.Circle.{reaches-index}
use mathlib.Core.Logic.{◌≢◌, inl, inr}
use Rattle.frames.specs.Circle.{index_of}
use Rattle.written.specs.Bits.{Written, effective}
use Rattle.written.specs.Well.{WellBits}
use Rattle.pages.specs.Table.{blocks_of, places_of, place_at, needed_at}
use Rattle.pages.proofs.Needs.{needed-place, place-past}

total : ℕ → (ℕ → ℕ) → ℕ
total zero h = 0
total (suc n) h = h n + total n h

total-same : (n : ℕ) (g h : ℕ → ℕ) → ((i : ℕ) → i < n → g i ≡ h i) → total n g ≡ total n h
unfolding total
total-same zero g h e = refl
total-same (suc n) g h e = ap₂ (λ (x y : ℕ). x + y) (e n (omega arith)) (total-same n g h (λ i b. e i (omega arith)))

total-add : (a b : ℕ) (h : ℕ → ℕ) → total (a + b) h ≡ total b (λ i. h (a + i)) + total a h
unfolding total
total-add a zero h = ap (λ (n : ℕ). total n h) (add-zero a) ∙ sym (zero-add (total a h))
total-add a (suc b) h =
    ap (λ (n : ℕ). total n h) (add-suc a b)
    ∙ (ap (λ (n : ℕ). h (a + b) + n) (total-add a b h) ∙ sym (add_assoc (h (a + b)) (total b (λ i. h (a + i))) (total a h)))

total-none : (n : ℕ) (h : ℕ → ℕ) → ((i : ℕ) → i < n → h i ≡ 0) → total n h ≡ 0
unfolding total
total-none zero h e = refl
total-none (suc n) h e = omega (arith, e n (omega arith), total-none n h (λ i b. e i (omega arith)))

count_add : (a b : ℕ) (f : ℕ → Bool) → count (a + b) f ≡ count b (λ i. f (a + i)) + count a f
unfolding count
count_add a zero f = ap (λ (n : ℕ). count n f) (add-zero a) ∙ sym (zero-add (count a f))
count_add a (suc b) f = ap (λ (n : ℕ). count n f) (add-suc a b) ∙ go (f (a + b)) (count_add a b f)
  where
    go : (t : Bool) → count (a + b) f ≡ count b (λ i. f (a + i)) + count a f
        → cond t (suc (count (a + b) f)) (count (a + b) f) ≡ cond t (suc (count b (λ i. f (a + i)))) (count b (λ i. f (a + i))) + count a f
    go true e = omega arith
    go false e = e

-- a count over rows is the total of the rows' counts
count-rows : (rows width : ℕ) (f : ℕ → Bool) → count (rows * width) f ≡ total rows (λ r. count width (λ b. f (r * width + b)))
unfolding total count
count-rows zero width f = ap (λ (n : ℕ). count n f) (native.Mathlib.Nat.zero-mul width)
count-rows (suc rows) width f =
    ap (λ (n : ℕ). count n f) (suc-mul rows width)
    ∙ (count_add (rows * width) width f ∙ ap (λ (n : ℕ). count width (λ b. f (rows * width + b)) + n) (count-rows rows width f))

-- a total round the circle is the total from its start
total-circle : (n omf : ℕ) (h : ℕ → ℕ) → omf < n → total n (λ r. h (index_of n omf r)) ≡ total n h
unfolding index_of
total-circle n omf h b =
    let m : ℕ = n - omf in
    let whole : n ≡ omf + m = omega arith in
    let turned : n ≡ m + omf = omega arith in
    ap (λ (k : ℕ). total k (λ r. h ((r + n - omf) % n))) whole
    ∙ (total-add omf m (λ r. h ((r + n - omf) % n))
    ∙ (ap₂ (λ (x y : ℕ). x + y)
    (total-same m _ h (λ i c. ap h (reaches-index n (omf + i) omf i (omega arith) b (omega arith) (inl refl))))
    (total-same omf _ (λ i. h (m + i)) (λ i c. ap h (reaches-index n i omf (m + i) (omega arith) b (omega arith) (inr (omega arith)))))
    ∙ (add_comm (total m h) (total omf (λ i. h (m + i))) ∙ sym (ap (λ (k : ℕ). total k h) turned ∙ total-add m omf h))))

-- a total of live frames, newest first, is Figure 2's count
total-pages : (blocks n : ℕ) (rows : ℕ → ℕ → Bool) → total n (λ i. count blocks (needs (rows i))) ≡ pages_of blocks n (λ j. rows (n - 1 - j))
unfolding total pages_of
total-pages blocks zero rows = refl
total-pages blocks (suc n) rows =
    ap₂ (λ (row : ℕ → Bool) (x : ℕ). count blocks (needs row) + x) (ap rows (top n))
    (total-pages blocks n rows ∙ pages-same blocks n _ _ (λ j b. ap rows (down n j)))
  where
    top : (n : ℕ) → n ≡ suc n - 1 - 0
    top n = omega arith

    down : (n j : ℕ) → n - 1 - j ≡ suc n - 1 - suc j
    down n j = omega arith

-- a test that fails from some number on is counted below it
count-top : (n m : ℕ) (f : ℕ → Bool) → m ≤ n → ((i : ℕ) → m ≤ i → i < n → f i ≡ false) → count n f ≡ count m f
count-top n m f h none =
    let whole : n ≡ m + (n - m) = omega arith in
    ap (λ (k : ℕ). count k f) whole
    ∙ (count_add m (n - m) f
    ∙ (ap (λ (k : ℕ). k + count m f) (count_none (n - m) (λ i. f (m + i)) (λ i b. none (m + i) (omega arith) (omega arith)))
    ∙ zero-add (count m f)))

-- one number more that passes is one more counted
count-more : (n : ℕ) (f g : ℕ → Bool) (k : ℕ) → k < n → f k ≡ false → g k ≡ true → ((i : ℕ) → i ≢ k → f i ≡ g i) → count n g ≡ suc (count n f)
unfolding count
count-more zero f g k b p q same = absurd (omega arith)
count-more (suc n) f g k b p q same = go (ℕ_discrete k n) (λ d. count-more n f g k (omega arith) p q same)
  where
    step : (s t : Bool) → s ≡ t → count n g ≡ suc (count n f) → cond t (suc (count n g)) (count n g) ≡ suc (cond s (suc (count n f)) (count n f))
    step true true e h = ap suc h
    step true false e h = absurd (mathlib.Core.Bool.true≢false e)
    step false true e h = absurd (false≢true e)
    step false false e h = h

    go : Dec (k ≡ n) → (k ≢ n → count n g ≡ suc (count n f)) → cond (g n) (suc (count n g)) (count n g) ≡ suc (cond (f n) (suc (count n f)) (count n f))
    go (yes e) ih =
        ap (λ (t : Bool). cond t (suc (count n g)) (count n g)) (ap g (sym e) ∙ q)
        ∙ (ap suc (count_same n g f (λ i c. sym (same i (λ z. omega arith))))
        ∙ sym (ap (λ (t : Bool). suc (cond t (suc (count n f)) (count n f))) (ap f (sym e) ∙ p)))
    go (no d) ih = step (f n) (g n) (same n (λ z. d (sym z))) (ih d)

-- those that pass but one
abbrev but : (ℕ → Bool) → ℕ → ℕ → Bool
but test k x = test x && not (eqb x k)

but-itself : (test : ℕ → Bool) (k x : ℕ) → x ≡ k → but test k x ≡ false
but-itself test k x e = ap (λ (t : Bool). test x && not t) (eq-eqb x k e) ∙ and-false (test x)

but-other : (test : ℕ → Bool) (k x : ℕ) → x ≢ k → but test k x ≡ test x
but-other test k x d = ap (λ (t : Bool). test x && not t) (ne_eqb x k d) ∙ and-true (test x)

-- Numbers that pass, named one by one and each once: they are as many as their names.
pub count-names : (n : ℕ) (test : ℕ → Bool) (many : ℕ) (name : ℕ → ℕ) → ((i : ℕ) → i < many → (name i < n) × (test (name i) ≡ true))
    → ((i j : ℕ) → i < many → j < many → name i ≡ name j → i ≡ j) → ((x : ℕ) → x < n → test x ≡ true → (i : ℕ) × (i < many) × (name i ≡ x)) → many ≡ count n test
count-names n test zero name here once all = sym (count_none n test (λ x b. go x b (test x) refl))
  where
    go : (x : ℕ) → x < n → (t : Bool) → test x ≡ t → t ≡ false
    go x b true e = absurd (omega (arith, (all x b e).1))
    go x b false e = refl
count-names n test (suc many) name here once all =
    ap suc (count-names n (but test (name many)) many name here-less (λ i j a b. once i j (omega arith) (omega arith)) all-less)
    ∙ sym (count-more n (but test (name many)) test (name many) (here many (omega arith)).0 (but-itself test (name many) (name many) refl) (here many (omega arith)).1 (but-other test (name many)))
  where
    here-less : (i : ℕ) → i < many → (name i < n) × (but test (name many) (name i) ≡ true)
    here-less i b =
        let h = here i (omega arith) in
        (h.0, but-other test (name many) (name i) (λ e. omega (arith, once i many (omega arith) (omega arith) e)) ∙ h.1)

    all-less : (x : ℕ) → x < n → but test (name many) x ≡ true → (i : ℕ) × (i < many) × (name i ≡ x)
    all-less x b e = go (ℕ_discrete x (name many))
      where
        go : Dec (x ≡ name many) → (i : ℕ) × (i < many) × (name i ≡ x)
        go (yes d) = absurd (false≢true (sym (but-itself test (name many) x d) ∙ e))
        go (no d) =
            let h = all x b (sym (but-other test (name many) x d) ∙ e) in
            (h.0, last h.0 h.1 h.2 (ℕ_discrete h.0 many), h.2)
          where
            last : (i : ℕ) → i < suc many → name i ≡ x → Dec (i ≡ many) → i < many
            last i c z (yes q) = absurd (d (sym z ∙ ap name q))
            last i c z (no q) = omega arith

module _ (w : Written) (tag live : ℕ) (q : WellBits w tag live) (below : live ≤ w.frames) where
  abbrev row : ℕ → ℕ
  row i = count (blocks_of w) (needs (effective w i))

  -- a frame's places: its blocks, and past them none
  place-row : (r : ℕ) → count 512 (λ b. needed_at w (place_at r b)) ≡ row (index_of w.frames w.omf r)
  place-row r =
      count-top 512 (blocks_of w) (λ b. needed_at w (place_at r b)) (omega (arith, q.lent.lines_few)) (place-past w r)
      ∙ count_same (blocks_of w) _ _ (λ b c. needed-place w r b q.lent.lines_few c)

  empty-row : (k : ℕ) → live ≤ k → k < w.frames → row k ≡ 0
  unfolding needs
  empty-row k a b =
      count_none (blocks_of w) (needs (effective w k))
      (λ n c. any_none 8 (λ i. effective w k (n * 8 + i)) (λ i d. q.only_live k (n * 8 + i) a b (omega arith)))

  -- As many places are needed as Figure 2 needs pages.
  pub needed-pages : count (places_of w) (needed_at w) ≡ pages_of (blocks_of w) live (λ j. effective w (live - 1 - j))
  needed-pages =
      count-rows w.frames 512 (needed_at w)
      ∙ (total-same w.frames _ _ (λ r b. place-row r)
      ∙ (total-circle w.frames w.omf row q.lent.omf_below
      ∙ (live-only ∙ total-pages (blocks_of w) live (effective w))))
    where
      live-only : total w.frames row ≡ total live row
      live-only =
          let whole : w.frames ≡ live + (w.frames - live) = omega arith in
          ap (λ (n : ℕ). total n row) whole
          ∙ (total-add live (w.frames - live) row
          ∙ (ap (λ (n : ℕ). n + total live row) (total-none (w.frames - live) _ (λ i b. empty-row (live + i) (omega arith) (omega arith)))
          ∙ zero-add (total live row)))
