-- A list rewritten element by element. Assumes nothing.
use mathlib.Core.Path.{◌≡◌, refl, sym, ◌∙◌, ap, ap₂}
use mathlib.Core.Logic.{◌≢◌, ◌⊎◌, inl, inr}
use mathlib.Core.List.{List, ◌++◌}
use Prim.Native.Nat.{ℕ, zero, suc, ◌+◌, ◌-◌, ◌≤◌, ◌<◌}
use native.Mathlib.Nat.{add-zero, add-suc}
use native.Mathlib.Numerals.{add-one}
use native.Mathlib.Decide.{ℕ_discrete}
use native.Mathlib.Omega.{arith}
use borrow.Rule.Slice.PartMut.{put_mid}
use lib.ListN.{length, get_or, set, take, drop, replicate, length-set, length-drop, take-append-drop}
use lib.Seq.{drop-set-lt, get_or-set_same, get_or-set_other, get_or-take, get_or-drop, length-take-le}
use Rattle.std.proofs.lemmas.List.{same_lists, set-append_left, set-append_right, length-replicate, get_or-replicate, get_or_default}
use Rattle.lists.specs.Lists.{rewrite, rewrite_from}

module _ (f : ℕ → ℕ → ℕ) (xs : List ℕ) where
  -- What lies past the elements rewritten stays.
  pub rewrite-drop : (n m : ℕ) → n ≤ m → drop m (rewrite n f xs) ≡ drop m xs
  unfolding rewrite
  rewrite-drop zero m h = refl
  rewrite-drop (suc n) m h = drop-set-lt m (rewrite n f xs) n _ (omega arith) ∙ rewrite-drop n m (omega arith)

  pub rewrite-length : (n : ℕ) → length (rewrite n f xs) ≡ length xs
  unfolding rewrite
  rewrite-length zero = refl
  rewrite-length (suc n) = length-set (rewrite n f xs) n _ ∙ rewrite-length n

  pub rewrite-past : (n k : ℕ) → n ≤ k → get_or (rewrite n f xs) k 0 ≡ get_or xs k 0
  unfolding rewrite
  rewrite-past zero k h = refl
  rewrite-past (suc n) k h = get_or-set_other (rewrite n f xs) n k _ 0 (λ e. omega arith) ∙ rewrite-past n k (omega arith)

  pub rewrite-at : (n k : ℕ) → k < n → k < length xs → get_or (rewrite n f xs) k 0 ≡ f k (get_or xs k 0)
  unfolding rewrite
  rewrite-at zero k h b = absurd (omega arith)
  rewrite-at (suc n) k h b = go (ℕ_discrete k n) (λ d. rewrite-at n k (omega arith) b)
    where
      go : Dec (k ≡ n) → ((k ≡ n → ⊥) → get_or (rewrite n f xs) k 0 ≡ f k (get_or xs k 0))
          → get_or (set (rewrite n f xs) n (f n (get_or xs n 0))) k 0 ≡ f k (get_or xs k 0)
      go (yes e) ih =
          ap (λ (z : ℕ). get_or (set (rewrite n f xs) n (f n (get_or xs n 0))) z 0) e
          ∙ (get_or-set_same (rewrite n f xs) n (f n (get_or xs n 0)) 0 (omega (arith, rewrite-length n)) ∙ ap (λ (z : ℕ). f z (get_or xs z 0)) (sym e))
      go (no d) ih = get_or-set_other (rewrite n f xs) n k (f n (get_or xs n 0)) 0 d ∙ ih d

  -- one more element, in the form in which a loop has it
  pub rewrite-next : (n : ℕ) (now : List ℕ) (v : ℕ) → now ≡ rewrite n f xs → v ≡ f n (get_or now n 0) → set now n v ≡ rewrite (n + 1) f xs
  unfolding rewrite
  rewrite-next n now v e h =
      ap₂ (λ (zs : List ℕ) (x : ℕ). set zs n x) e
      (h ∙ ap (f n) (ap (λ (zs : List ℕ). get_or zs n 0) e ∙ rewrite-past n n (omega arith)))
      ∙ ap (λ (k : ℕ). rewrite k f xs) (sym (add-one n))

-- The list of a loop that rewrites a list, at its n-th turn.
pub record Rewritten (n : ℕ) (f : ℕ → ℕ → ℕ) (xs now : List ℕ) : Type 0 where
  pub long : length now ≡ length xs
  pub same : now ≡ rewrite n f xs

pub rewrite-start : (f : ℕ → ℕ → ℕ) (xs : List ℕ) → Rewritten 0 f xs xs
unfolding rewrite
rewrite-start f xs = record { long = refl; same = refl }

pub rewrite-more : {f : ℕ → ℕ → ℕ} {xs now : List ℕ} {n : ℕ} (v : ℕ) → Rewritten n f xs now → v ≡ f n (get_or now n 0)
    → Rewritten (n + 1) f xs (set now n v)
rewrite-more {f} {xs} {now} {n} v h e =
    record { long = length-set now n v ∙ h.long; same = rewrite-next f xs n now v h.same e }

-- and at its end.
pub rewrite-end : {f : ℕ → ℕ → ℕ} {xs now : List ℕ} {n : ℕ} (count : ℕ) → Rewritten n f xs now → n ≤ count → count ≤ n → now ≡ rewrite count f xs
rewrite-end {f} {xs} {now} {n} count h a c =
    let e : n ≡ count = omega arith in
    h.same ∙ ap (λ (m : ℕ). rewrite m f xs) e

-- Neighbours rewritten: what lies beside them stays.
module _ (at : ℕ) (f : ℕ → ℕ) (xs : List ℕ) where
  pub from-length : (n : ℕ) → length (rewrite_from at n f xs) ≡ length xs
  unfolding rewrite_from
  from-length zero = refl
  from-length (suc n) = length-set (rewrite_from at n f xs) (at + n) _ ∙ from-length n

  pub from-drop : (n m : ℕ) → at + n ≤ m → drop m (rewrite_from at n f xs) ≡ drop m xs
  unfolding rewrite_from
  from-drop zero m h = refl
  from-drop (suc n) m h = drop-set-lt m (rewrite_from at n f xs) (at + n) _ (omega arith) ∙ from-drop n m (omega arith)

  pub from-outside : (n p : ℕ) → (p < at) ⊎ (at + n ≤ p) → get_or (rewrite_from at n f xs) p 0 ≡ get_or xs p 0
  unfolding rewrite_from
  from-outside zero p h = refl
  from-outside (suc n) p h = get_or-set_other (rewrite_from at n f xs) (at + n) p _ 0 (off h) ∙ from-outside n p (less h)
    where
      off : (p < at) ⊎ (at + suc n ≤ p) → p ≢ at + n
      off (inl a) e = omega arith
      off (inr a) e = omega arith

      less : (p < at) ⊎ (at + suc n ≤ p) → (p < at) ⊎ (at + n ≤ p)
      less (inl a) = inl a
      less (inr a) = inr (omega arith)

  pub from-inside : (n p : ℕ) → at ≤ p → p < at + n → at + n ≤ length xs → get_or (rewrite_from at n f xs) p 0 ≡ f (get_or xs p 0)
  unfolding rewrite_from
  from-inside zero p a b h = absurd (omega arith)
  from-inside (suc n) p a b h = go (ℕ_discrete p (at + n)) (λ c. from-inside n p a c (omega arith))
    where
      go : Dec (p ≡ at + n) → (p < at + n → get_or (rewrite_from at n f xs) p 0 ≡ f (get_or xs p 0))
          → get_or (set (rewrite_from at n f xs) (at + n) (f (get_or xs (at + n) 0))) p 0 ≡ f (get_or xs p 0)
      go (yes e) ih =
          ap (λ (i : ℕ). get_or (set (rewrite_from at n f xs) (at + n) (f (get_or xs (at + n) 0))) i 0) e
          ∙ (get_or-set_same (rewrite_from at n f xs) (at + n) (f (get_or xs (at + n) 0)) 0 (omega (arith, from-length n))
          ∙ ap (λ (i : ℕ). f (get_or xs i 0)) (sym e))
      go (no d) ih = get_or-set_other (rewrite_from at n f xs) (at + n) p (f (get_or xs (at + n) 0)) 0 d ∙ ih (omega arith)

  -- The list of a loop over count of them, at its n-th turn: one element is read, and what f gives of it is put at its place.
  pub record RewrittenFrom (count n : ℕ) (now : List ℕ) : Type 0 where
    pub few : n ≤ count
    pub long : length now ≡ length xs
    pub same : now ≡ rewrite_from at n f xs

  pub from_start : (count : ℕ) → RewrittenFrom count 0 xs
  unfolding rewrite_from
  from_start count = record { few = omega arith; long = refl; same = refl }

  pub from_next : (count n : ℕ) (now after : List ℕ) (place x v : ℕ) → RewrittenFrom count n now → n < count → place ≡ at + n → x ≡ get_or now place 0
      → v ≡ f x → after ≡ set now place v → RewrittenFrom count (n + 1) after
  unfolding rewrite_from
  from_next count n now after place x v c b p d e a =
      record {
        few = omega arith;
        long = ap length a ∙ (length-set now place v ∙ c.long);
        same = a ∙ ((λ i. set (c.same i) (p i) (value i)) ∙ ap (λ (k : ℕ). rewrite_from at k f xs) (sym (add-one n)));
      }
    where
      value : v ≡ f (get_or xs (at + n) 0)
      value = e ∙ ap f (d ∙ (λ i. get_or (c.same i) (p i) 0) ∙ from-outside n (at + n) (inr (omega arith)))

  pub from_end : (count n : ℕ) (now : List ℕ) → RewrittenFrom count n now → count ≤ n → now ≡ rewrite_from at count f xs
  from_end count n now c h =
      let all : n ≡ count = omega (arith, c.few) in
      c.same ∙ ap (λ (k : ℕ). rewrite_from at k f xs) all

-- Where the first a elements are rewritten and then the k behind them, the first a + k are.
module _ {f : ℕ → ℕ → ℕ} {xs now : List ℕ} (a k : ℕ) (g : ℕ → ℕ) (h : Rewritten a f xs now) (same : (j x : ℕ) → j < k → g x ≡ f (a + j) x) where
  behind-value : (n : ℕ) → n < k → g (get_or now (a + n) 0) ≡ f (a + n) (get_or xs (a + n) 0)
  behind-value n b =
      same n _ b ∙ ap (f (a + n)) (ap (λ (zs : List ℕ). get_or zs (a + n) 0) h.same ∙ rewrite-past f xs a (a + n) (omega arith))

  behind_more : (n : ℕ) → n ≤ k → rewrite_from a n g now ≡ rewrite (a + n) f xs
  unfolding rewrite rewrite_from
  behind_more zero b = h.same ∙ ap (λ (m : ℕ). rewrite m f xs) (sym (add-zero a))
  behind_more (suc n) b =
      ap₂ (λ (zs : List ℕ) (x : ℕ). set zs (a + n) x) (behind_more n (omega arith)) (behind-value n (omega arith))
      ∙ ap (λ (m : ℕ). rewrite m f xs) (sym (add-suc a n))

  pub rewrite-behind : (after : List ℕ) → after ≡ rewrite_from a k g now → Rewritten (a + k) f xs after
  rewrite-behind after e =
      let is : after ≡ rewrite (a + k) f xs = e ∙ behind_more k (omega arith) in
      record { long = ap length is ∙ rewrite-length f xs (a + k); same = is }

-- ---- A part of a list rewritten where it stands, in the form in which a loop over the part, or `fill`, leaves the list.
-- The first m elements are the part, of which n are rewritten.
pub rewrite-front : (f : ℕ → ℕ → ℕ) (xs : List ℕ) (n m : ℕ) → n ≤ m → m ≤ length xs → rewrite n f (take m xs) ++ drop m xs ≡ rewrite n f xs
unfolding rewrite
rewrite-front f xs zero m a b = take-append-drop m xs
rewrite-front f xs (suc n) m a b =
    let before : List ℕ = rewrite n f (take m xs) in
    let long : n < length before = omega (arith, rewrite-length f (take m xs) n, length-take-le m xs b) in
    sym (set-append_left before (drop m xs) n (f n (get_or (take m xs) n 0)) long)
    ∙ ap₂ (λ (zs : List ℕ) (x : ℕ). set zs n (f n x)) (rewrite-front f xs n m (omega arith) b) (get_or-take m xs n 0 (omega arith))

-- Neighbours rewritten are the part behind them rewritten from its start.
from-part : (at : ℕ) (f : ℕ → ℕ) (xs : List ℕ) → at ≤ length xs → (n : ℕ) → rewrite_from at n f xs ≡ take at xs ++ rewrite n (λ _ x. f x) (drop at xs)
unfolding rewrite rewrite_from
from-part at f xs b zero = sym (take-append-drop at xs)
from-part at f xs b (suc n) =
    let now : List ℕ = rewrite n (λ _ x. f x) (drop at xs) in
    let index : at + n - at ≡ n = omega arith in
    ap₂ (λ (zs : List ℕ) (x : ℕ). set zs (at + n) (f x)) (from-part at f xs b n) (sym (get_or-drop at xs n 0))
    ∙ (set-append_right (take at xs) now at (at + n) (f (get_or (drop at xs) n 0)) (length-take-le at xs b) (omega arith)
    ∙ ap (λ (i : ℕ). take at xs ++ set now i (f (get_or (drop at xs) n 0))) index)

pub part-rewritten : (at n : ℕ) (f : ℕ → ℕ) (xs ys : List ℕ) → at + n ≤ length xs → ys ≡ rewrite n (λ _ x. f x) (take n (drop at xs))
    → put_mid at n xs ys ≡ rewrite_from at n f xs
part-rewritten at n f xs ys b e =
    ap (λ (zs : List ℕ). take at xs ++ (zs ++ drop n (drop at xs))) e
    ∙ (ap (λ (zs : List ℕ). take at xs ++ zs) (rewrite-front (λ _ x. f x) (drop at xs) n n (omega arith) (omega (arith, length-drop at xs)))
    ∙ sym (from-part at f xs (omega arith) n))

-- One value in all places,
all-one : (v : ℕ) (xs : List ℕ) → replicate (length xs) v ≡ rewrite (length xs) (λ _ _. v) xs
all-one v xs = same_lists _ _ (length-replicate (length xs) v ∙ sym (rewrite-length (λ _ _. v) xs (length xs))) same
  where
    same : (k d : ℕ) → k < length (replicate (length xs) v) → get_or (replicate (length xs) v) k d ≡ get_or (rewrite (length xs) (λ _ _. v) xs) k d
    same k d h =
        let b : k < length xs = omega (arith, length-replicate (length xs) v) in
        get_or-replicate (length xs) k v d b
        ∙ (sym (rewrite-at (λ _ _. v) xs (length xs) k b b)
        ∙ get_or_default (rewrite (length xs) (λ _ _. v) xs) k 0 d (omega (arith, rewrite-length (λ _ _. v) xs (length xs))))

-- and so in the first m places, or in neighbours.
pub filled-front : (v m : ℕ) (xs ys : List ℕ) → m ≤ length xs → ys ≡ replicate (length (take m xs)) v → ys ++ drop m xs ≡ rewrite m (λ _ _. v) xs
filled-front v m xs ys b e =
    ap (λ (zs : List ℕ). zs ++ drop m xs) (e ∙ all-one v (take m xs))
    ∙ (ap (λ (n : ℕ). rewrite n (λ _ _. v) (take m xs) ++ drop m xs) (length-take-le m xs b) ∙ rewrite-front (λ _ _. v) xs m m (omega arith) b)

pub filled-part : (v at m n : ℕ) (xs ys : List ℕ) → m ≡ n → at + n ≤ length xs → ys ≡ replicate (length (take m (drop at xs))) v
    → put_mid at m xs ys ≡ rewrite_from at n (λ _. v) xs
filled-part v at m n xs ys d b e =
    part-rewritten at m (λ _. v) xs ys (omega arith)
    (e ∙ (all-one v (take m (drop at xs))
    ∙ ap (λ (k : ℕ). rewrite k (λ _ _. v) (take m (drop at xs))) (length-take-le m (drop at xs) (omega (arith, length-drop at xs)))))
    ∙ ap (λ (j : ℕ). rewrite_from at j (λ _. v) xs) d

-- What a loop over the first ones leaves, at its end.
pub loop-front : (m : ℕ) (xs : List ℕ) {f : ℕ → ℕ → ℕ} {now : List ℕ} {n : ℕ} → m ≤ length xs → Rewritten n f (take m xs) now → n ≤ length (take m xs)
    → length (take m xs) ≤ n → now ++ drop m xs ≡ rewrite m f xs
loop-front m xs {f} {now} {n} b h few all =
    ap (λ (zs : List ℕ). zs ++ drop m xs) (rewrite-end m h (omega (arith, few, length-take-le m xs b)) (omega (arith, all, length-take-le m xs b)))
    ∙ rewrite-front f xs m m (omega arith) b
