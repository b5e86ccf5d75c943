-- An advance: the effective bits keep their frames, whose indexes go down with OMF, and the collected frames have none. Assumes nothing.
use mathlib.Core.Path.{◌≡◌, refl, sym, ◌∙◌, ap, ap₂, subst₂}
use mathlib.Core.Bool.{Bool, true, false, ◌&&◌, and-false, false≢true}
use mathlib.Core.List.{List}
use Prim.Native.Nat.{ℕ, zero, suc, ◌+◌, ◌-◌, ◌/◌, ◌%◌, ◌≤◌, ◌<◌}
use native.Mathlib.Nat.{add-zero, add_assoc, mod-add-mod}
use native.Mathlib.Decide.{dec_lt, ℕ_discrete}
use native.Mathlib.Omega.{arith}
use borrow.Author.Tests.{lt-ltb, le-ltb}
use lib.Dec.{ltb}
use lib.ListN.{length, get_or}
use Rattle.frames.specs.Circle.{frame_at, index_of}
use Rattle.numbers.specs.Digits.{bit}
use Rattle.frames.proofs.Circle.{frame_below, index-frame, frame-index}
use Rattle.written.specs.Bits.{Written, written_of, AsksWritten, place_of, tag_of, bound_of, standing, effective}
use Rattle.written.specs.Steps.{Ordered, lower_bound, lowered}
use Rattle.written.specs.Well.{WellBits}
use Rattle.lists.proofs.Lists.{rewrite-at, rewrite-length}
use Rattle.written.proofs.Areas.{lent-kept}
use Rattle.written.proofs.Sweeping.{lower-open, lower-else}

-- The frame of an index after OMF has moved k frames on: that of the index k further, round the circle.
module _ (n omf k : ℕ) (h : omf < n) where
  frame_on : (j : ℕ) → frame_at n (frame_at n omf k) j ≡ (omf + (k + j)) % n
  unfolding frame_at
  frame_on j = mod-add-mod (omf + k) n j ∙ ap (λ (x : ℕ). x % n) (add_assoc omf k j)

  pub frame-kept : (j : ℕ) → frame_at n (frame_at n omf k) j ≡ frame_at n omf (k + j)
  unfolding frame_at
  frame-kept = frame_on

  -- which is one of the collected frames where the circle closes
  pub index_kept : (j : ℕ) → k + j < n → index_of n omf (frame_at n (frame_at n omf k) j) ≡ k + j
  index_kept j b = ap (index_of n omf) (frame-kept j) ∙ index-frame n omf h (k + j) b

  pub index-gone : (j : ℕ) → j < n → k ≤ n → n ≤ k + j → index_of n omf (frame_at n (frame_at n omf k) j) ≡ k + j - n
  unfolding frame_at
  index-gone j b c d =
      ap (index_of n omf)
      (frame_on j ∙ (ap (λ (x : ℕ). x % n) (around j d) ∙ native.Mathlib.Nat.add-mod_right (omf + (k + j - n)) n))
      ∙ index-frame n omf h (k + j - n) (omega arith)
    where
      around : (j : ℕ) → n ≤ k + j → omf + (k + j) ≡ omf + (k + j - n) + n
      around j d = omega arith

lower-test : (k j e n : ℕ) → k + j < n → n ≤ 4096 → ltb j (lower_bound k e) ≡ ltb (k + j) e
lower-test k j e n b few = go (ℕ_discrete e 65535)
  where
    go : Dec (e ≡ 65535) → ltb j (lower_bound k e) ≡ ltb (k + j) e
    go (yes p) = lt-ltb j (lower_bound k e) (omega (arith, lower-open k e p)) ∙ sym (lt-ltb (k + j) e (omega arith))
    go (no p) =
        ap (ltb j) (lower-else k e p)
        ∙ elim (dec_lt (k + j) e) [
          | yes q ↦ lt-ltb j (e - k) (omega arith) ∙ sym (lt-ltb (k + j) e q)
          | no q ↦ le-ltb j (e - k) (omega arith) ∙ sym (le-ltb (k + j) e (omega arith))
        ]

lower-order : (k a b : ℕ) → a ≤ b → b ≤ 65535 → lower_bound k a ≤ lower_bound k b
lower-order k a b h few = go (ℕ_discrete a 65535) (ℕ_discrete b 65535)
  where
    go : Dec (a ≡ 65535) → Dec (b ≡ 65535) → lower_bound k a ≤ lower_bound k b
    go (yes p) (yes q) = omega (arith, lower-open k a p, lower-open k b q)
    go (yes p) (no q) = absurd (omega arith)
    go (no p) (yes q) = omega (arith, lower-else k a p, lower-open k b q)
    go (no p) (no q) = omega (arith, lower-else k a p, lower-else k b q)

-- entries in order are at most the newest one
few-from : (tag : ℕ) (history : List ℕ) → Ordered tag history → get_or history tag 0 ≡ 65535 → (t : ℕ) → t ≤ tag → get_or history t 0 ≤ 65535
few-from tag history o e t b = up (tag - t) t (omega arith)
  where
    up : (d t : ℕ) → t + d ≡ tag → get_or history t 0 ≤ 65535
    up zero t c = omega (arith, e, ap (λ (z : ℕ). get_or history z 0) (sym (add-zero t) ∙ c))
    up (suc d) t c = omega (arith, o t (omega arith), up d (t + 1) (omega arith))

-- The group of a line in a frame.
abbrev pub group_of : Written → (groups : List ℕ) (frame line : ℕ) → ℕ
group_of w groups f m = get_or groups (place_of w.lines (f / 16) m) 0

-- What an advance may leave of the groups: tags and the kept frames' bits as they were, no bit that was not there, and of the collected
-- frames' bits none that was effective.
pub record Collected (w : Written) (k : ℕ) (groups : List ℕ) : Type 0 where
  pub long : length groups ≡ length w.groups
  pub tags : (at : ℕ) → tag_of (get_or groups at 0) ≡ tag_of (get_or w.groups at 0)
  pub old : (at q : ℕ) → q < 16 → bit (get_or groups at 0) q ≡ true → bit (get_or w.groups at 0) q ≡ true
  pub keeps : (i m : ℕ) → k ≤ i → i < w.frames → m < w.lines
      → bit (group_of w groups (frame_at w.frames w.omf i) m) (frame_at w.frames w.omf i % 16)
      ≡ bit (group_of w w.groups (frame_at w.frames w.omf i) m) (frame_at w.frames w.omf i % 16)
  pub stale : (i m : ℕ) → i < k → m < w.lines → bit (group_of w groups (frame_at w.frames w.omf i) m) (frame_at w.frames w.omf i % 16) ≡ true
      → effective w i m ≡ false

module _ (w : Written) (lent : AsksWritten w) (k : ℕ) (below : k < w.frames) (groups : List ℕ) (c : Collected w k groups) where
  abbrev pub advanced : Written
  advanced = written_of w.lines w.frames (frame_at w.frames w.omf k) groups (lowered k w.history)

  lowered-entry : (t : ℕ) → t < 256 → get_or (lowered k w.history) t 0 ≡ lower_bound k (get_or w.history t 0)
  unfolding lowered
  lowered-entry t b = rewrite-at (λ _ e. lower_bound k e) w.history 256 t b (omega (arith, lent.history_long))

  lowered-length : length (lowered k w.history) ≡ length w.history
  unfolding lowered
  lowered-length = rewrite-length (λ _ e. lower_bound k e) w.history 256

  abbrev bound : (f m : ℕ) → ℕ
  bound f m = bound_of w.history (group_of w w.groups f m)

  bound-after : (f m : ℕ) → bound_of (lowered k w.history) (group_of w groups f m) ≡ lower_bound k (bound f m)
  bound-after f m =
      lowered-entry (tag_of (group_of w groups f m)) (omega arith) ∙ ap (λ (t : ℕ). lower_bound k (get_or w.history t 0)) (c.tags (place_of w.lines (f / 16) m))

  -- what is looked up for the frame of an index after
  look : (j f m : ℕ) → Bool
  look j f m = bit (group_of w groups f m) (f % 16) && ltb j (bound_of (lowered k w.history) (group_of w groups f m))

  kept-bit : (j m : ℕ) → k + j < w.frames → m < w.lines → look j (frame_at w.frames w.omf (k + j)) m ≡ effective w (k + j) m
  unfolding look effective standing
  kept-bit j m b d =
      ap₂ (λ (s t : Bool). s && t) (c.keeps (k + j) m (omega arith) b d)
      (ap (ltb j) (bound-after (frame_at w.frames w.omf (k + j)) m) ∙ lower-test k j (bound (frame_at w.frames w.omf (k + j)) m) w.frames b lent.frames_few)

  -- a bit that was not effective is below its bound no more
  low : (i m : ℕ) → bit (group_of w w.groups (frame_at w.frames w.omf i) m) (frame_at w.frames w.omf i % 16) ≡ true → effective w i m ≡ false
      → bound (frame_at w.frames w.omf i) m ≤ i
  unfolding effective standing
  low i m s e = go (dec_lt i (bound (frame_at w.frames w.omf i) m))
    where
      go : Dec (i < bound (frame_at w.frames w.omf i) m) → bound (frame_at w.frames w.omf i) m ≤ i
      go (yes h) = absurd (false≢true (sym e ∙ ap₂ (λ (s t : Bool). s && t) s (lt-ltb i (bound (frame_at w.frames w.omf i) m) h)))
      go (no h) = omega arith

  gone-bit : (i j m : ℕ) → i < k → m < w.lines → look j (frame_at w.frames w.omf i) m ≡ false
  unfolding look
  gone-bit i j m b d = go (bit (group_of w groups (frame_at w.frames w.omf i) m) (frame_at w.frames w.omf i % 16)) refl
    where
      go : (t : Bool) → bit (group_of w groups (frame_at w.frames w.omf i) m) (frame_at w.frames w.omf i % 16) ≡ t
          → (t && ltb j (bound_of (lowered k w.history) (group_of w groups (frame_at w.frames w.omf i) m))) ≡ false
      go true s =
          let f : ℕ = frame_at w.frames w.omf i in
          let e : bound f m ≤ i = low i m (c.old (place_of w.lines (f / 16) m) (f % 16) (omega arith) s) (c.stale i m b d s) in
          let few : w.frames ≤ 4096 = lent.frames_few in
          let other : bound f m ≡ 65535 → ⊥ = λ z. omega arith in
          le-ltb j (bound_of (lowered k w.history) (group_of w groups f m)) (omega (arith, bound-after f m, lower-else k (bound f m) other))
      go false s = refl

  opens : (j m : ℕ) → effective advanced j m ≡ look j (frame_at w.frames (frame_at w.frames w.omf k) j) m
  unfolding effective standing look
  opens j m = refl

  -- the effective bits after are those before, k indexes further
  pub advanced-effective : (j m : ℕ) → j < w.frames → m < w.lines → effective advanced j m ≡ (ltb (k + j) w.frames && effective w (k + j) m)
  advanced-effective j m b d = opens j m ∙ go (dec_lt (k + j) w.frames)
    where
      go : Dec (k + j < w.frames) → look j (frame_at w.frames (frame_at w.frames w.omf k) j) m ≡ (ltb (k + j) w.frames && effective w (k + j) m)
      go (yes h) =
          ap (λ (z : ℕ). look j z m) (frame-kept w.frames w.omf k lent.omf_below j)
          ∙ (kept-bit j m h d ∙ sym (ap (λ (t : Bool). t && effective w (k + j) m) (lt-ltb (k + j) w.frames h)))
      go (no h) =
          let f : ℕ = frame_at w.frames (frame_at w.frames w.omf k) j in
          let at : f ≡ frame_at w.frames w.omf (k + j - w.frames) =
          sym (frame-index w.frames w.omf lent.omf_below f (frame_below w.frames (frame_at w.frames w.omf k) (frame_below w.frames w.omf lent.omf_below k) j))
          ∙ ap (frame_at w.frames w.omf) (index-gone w.frames w.omf k lent.omf_below j b (omega arith) (omega arith))
          in
          ap (λ (z : ℕ). look j z m) at
          ∙ (gone-bit (k + j - w.frames) j m (omega arith) d ∙ sym (ap (λ (t : Bool). t && effective w (k + j) m) (le-ltb (k + j) w.frames (omega arith))))

  -- and the written bits stay well-formed.
  pub advanced-well : (tag live : ℕ) → WellBits w tag live → WellBits advanced tag (live - k)
  advanced-well tag live q =
      record {
        lent = lent-kept w _ _ _ lent (frame_below w.frames w.omf lent.omf_below k) c.long lowered-length;
        tag_below = q.tag_below;
        tags = λ at p b d e. omega (arith, c.tags at, q.tags at p b d (c.old at p d e));
        open_tag =
            lowered-entry tag q.tag_below ∙ (sym (lower-open k (get_or w.history tag 0) q.open_tag) ∙ q.open_tag);
        ordered = λ t b.
            subst₂ (λ (x y : ℕ). x ≤ y) (sym (lowered-entry t (omega (arith, q.tag_below)))) (sym (lowered-entry (t + 1) (omega (arith, q.tag_below))))
            (lower-order k (get_or w.history t 0) (get_or w.history (t + 1) 0) (q.ordered t b) (few (t + 1) (omega arith)));
        only_live = λ j l a b d. advanced-effective j l b d ∙ gone j l a d (dec_lt (k + j) w.frames);
      }
    where
      -- no used entry is above the current tag's
      few : (t : ℕ) → t ≤ tag → get_or w.history t 0 ≤ 65535
      few t b = few-from tag w.history q.ordered q.open_tag t b

      gone : (j l : ℕ) → live - k ≤ j → l < w.lines → Dec (k + j < w.frames) → (ltb (k + j) w.frames && effective w (k + j) l) ≡ false
      gone j l a c (yes d) = ap (λ (z : Bool). ltb (k + j) w.frames && z) (q.only_live (k + j) l (omega arith) d c) ∙ and-false (ltb (k + j) w.frames)
      gone j l a c (no d) = ap (λ (z : Bool). z && effective w (k + j) l) (le-ltb (k + j) w.frames (omega arith))
