-- Frames and their indexes from OMF, one to one round the circle. Assumes nothing.
use mathlib.Core.Path.{◌≡◌, sym}
use mathlib.Core.Logic.{◌⊎◌, inl, inr, ⊎_elim, ◌≢◌}
use Prim.Native.Nat.{ℕ, ◌+◌, ◌-◌, ◌%◌, ◌≤◌, ◌<◌}
use native.Mathlib.Nat.{mod-lt, mod-eq_of_lt}
use native.Mathlib.Decide.{dec_lt}
use native.Mathlib.Omega.{arith}
use Rattle.rules.specs.Registers.{live_between}
use Rattle.rules.proofs.Circle.{wrap, Reaches, index-reaches, reaches-index}
use mir.Syntax.{w32}
use mir.Val.{Fits}
use Rattle.frames.specs.Circle.{Turn, index_of, frame_at}

module _ (n omf : ℕ) (h : omf < n) where
  pub frame_below : (i : ℕ) → frame_at n omf i < n
  unfolding frame_at
  frame_below i = mod-lt (omf + i) (omega arith)

  pub index_below : (f : ℕ) → index_of n omf f < n
  unfolding index_of
  index_below f = mod-lt (f + n - omf) (omega arith)

  -- a frame lies its index on from OMF, at most once round
  pub frame-cases : (i : ℕ) → i < n → Reaches n omf i (frame_at n omf i)
  unfolding frame_at
  frame-cases i b = ⊎_elim (λ w. inl (sym w.1)) (λ w. inr (sym w.1)) (wrap n (omf + i) (omega arith))

  pub index-frame : (i : ℕ) → i < n → index_of n omf (frame_at n omf i) ≡ i
  unfolding index_of
  index-frame i b = reaches-index n (frame_at n omf i) omf i (frame_below i) h b (frame-cases i b)

  pub frame-index : (f : ℕ) → f < n → frame_at n omf (index_of n omf f) ≡ f
  unfolding index_of
  frame-index f b =
      ⊎_elim
      (λ e. ⊎_elim (λ d. omega (arith, e, d)) (λ d. absurd (omega (arith, e, d, frame_below i))) (frame-cases i (index_below f)))
      (λ e. ⊎_elim (λ d. absurd (omega (arith, e, d, frame_below i))) (λ d. omega (arith, e, d)) (frame-cases i (index_below f)))
      (index-reaches n f omf b h)
    where
      i : ℕ
      i = (f + n - omf) % n

-- The same without a division, as the code has them: a place goes round the circle at most once.
module _ (n omf place : ℕ) (t : Turn n omf place) where
  pub frame_on : omf + place < n → omf + place ≡ frame_at n omf place
  unfolding frame_at
  frame_on h = sym (mod-eq_of_lt h)

  pub frame-round : n ≤ omf + place → omf + place - n ≡ frame_at n omf place
  frame-round h =
      ⊎_elim (λ e. absurd (omega (arith, e, frame_below n omf t.omf_below place))) (λ e. omega (arith, e))
      (frame-cases n omf t.omf_below place t.below)

  pub index_on : omf ≤ place → place - omf ≡ index_of n omf place
  unfolding index_of
  index_on h = sym (reaches-index n place omf (place - omf) t.below t.omf_below (omega arith) (inl (omega arith)))

  pub index-round : place < omf → place + n - omf ≡ index_of n omf place
  unfolding index_of
  index-round h = sym (mod-eq_of_lt (omega arith))

-- one more than an index fits its type
pub live_small : (n omf f r : ℕ) → r ≡ index_of n omf f → Turn n omf f → Fits w32 (r + 1)
live_small n omf f r e t = record { fits = omega (arith, index_below n omf t.omf_below f, t.few) }

-- ---- the frame behind a frame
module _ (n frame : ℕ) (b : frame < n) where
  next-cases : ((frame + 1 < n) × ((frame + 1) % n ≡ frame + 1)) ⊎ ((n ≤ frame + 1) × ((frame + 1) % n + n ≡ frame + 1))
  next-cases = wrap n (frame + 1) (omega arith)

-- No frame is left just where OMF is the one behind CMF.
module _ (n omf cmf : ℕ) (h : omf < n) (b : cmf < n) (next : ℕ) (is : next ≡ (cmf + 1) % n) where
  abbrev i : ℕ
  i = (cmf + n - omf) % n

  few : i < n
  few = mod-lt (cmf + n - omf) (omega arith)

  pub none_left : next ≡ omf → n ≤ live_between n cmf omf
  unfolding live_between
  none_left e =
      ⊎_elim (λ r. ⊎_elim (λ w. omega (arith, r, w, few)) (λ w. omega (arith, r, w, few)) (next-cases n cmf b))
      (λ r. ⊎_elim (λ w. omega (arith, r, w, few)) (λ w. omega (arith, r, w, few)) (next-cases n cmf b)) (index-reaches n cmf omf b h)

  pub some_left : next ≢ omf → live_between n cmf omf < n
  unfolding live_between
  some_left e =
      elim (dec_lt (i + 1) n) [
        | yes l ↦ l
        | no l ↦ absurd (e (same (omega arith)))
      ]
    where
      same : n ≤ i + 1 → next ≡ omf
      same l =
          ⊎_elim (λ r. ⊎_elim (λ w. omega (arith, r, w, few)) (λ w. omega (arith, r, w, few)) (next-cases n cmf b))
          (λ r. ⊎_elim (λ w. omega (arith, r, w, few)) (λ w. omega (arith, r, w, few)) (next-cases n cmf b)) (index-reaches n cmf omf b h)
