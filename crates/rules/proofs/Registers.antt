-- Registers within their limits, and the live frames that they tell after each step round the circle. Assumes nothing.
use mathlib.Core.Path.{◌≡◌, refl, ◌∙◌, ap}
use mathlib.Core.Logic.{⊎_elim, inl, inr}
use mathlib.Core.Bool.{true, false}
use Prim.Native.Nat.{ℕ, ◌+◌, ◌-◌, ◌%◌, ◌≤◌, ◌<◌}
use native.Mathlib.Nat.{mod-lt, mod_self}
use native.Mathlib.Omega.{arith}
use borrow.Author.Tests.{ltb-true, lt-ltb}
use lib.Dec.{ltb}
use Rattle.rules.specs.Settings.{Settings, within}
use Rattle.rules.specs.Registers.{Registers, live_between, live_frames, state_fits, at_start, moved_to}
use Rattle.rules.proofs.Tests.{both_true}
use Rattle.rules.proofs.Circle.{wrap, Reaches, index-reaches, reaches-index}

-- A state within its limits, as linear facts.
pub record Fits (r : Registers) : Type 0 where
  pub limits : within r.settings ≡ true
  pub cmf_below : r.cmf < r.settings.frames
  pub omf_below : r.omf < r.settings.frames

pub fits-facts : (r : Registers) → state_fits r ≡ true → Fits r
unfolding state_fits
fits-facts r e =
    let a = both_true (within r.settings) _ e in
    let b = both_true (ltb r.cmf r.settings.frames) (ltb r.omf r.settings.frames) a.1 in
    record { limits = a.0; cmf_below = ltb-true _ _ b.0; omf_below = ltb-true _ _ b.1 }

pub facts-fit : (r : Registers) → Fits r → state_fits r ≡ true
unfolding state_fits
facts-fit r h = simp (h.limits, lt-ltb r.cmf r.settings.frames h.cmf_below, lt-ltb r.omf r.settings.frames h.omf_below)

-- The blank state, "with L = 0", is not within its limits.
pub blank-unfit : (r : Registers) → r.settings.lines ≡ 0 → state_fits r ≡ false
unfolding state_fits within
blank-unfit r e = rw e refl

pub live-start : (s : Settings) → 0 < s.frames → live_frames (at_start s) ≡ 1
unfolding live_between at_start
live-start s h = ap (λ (x : ℕ). x % s.frames + 1) (omega arith) ∙ ap (λ (x : ℕ). x + 1) (mod_self s.frames)

module _ (r : Registers) (fits : Fits r) where
  abbrev n : ℕ
  n = r.settings.frames

  abbrev cmf : ℕ
  cmf = r.cmf

  abbrev omf : ℕ
  omf = r.omf

  i : ℕ
  i = (cmf + n - omf) % n

  below : i < n
  unfolding i
  below = mod-lt (cmf + n - omf) (omega (arith, fits.omf_below))

  there : Reaches n omf i cmf
  unfolding i
  there = index-reaches n cmf omf fits.cmf_below fits.omf_below

  pub live_some : 0 < live_frames r
  unfolding live_between
  live_some = omega arith

  pub live-at-most : live_frames r ≤ n
  unfolding live_between i
  live-at-most = omega (arith, below)

  pub live-mark : live_frames r < n → live_frames (moved_to ((cmf + 1) % n) omf r) ≡ live_frames r + 1
  unfolding live_between i
  live-mark h =
      ap (λ (x : ℕ). x + 1) (reaches-index n ((cmf + 1) % n) omf (i + 1) (mod-lt (cmf + 1) (omega arith)) fits.omf_below (omega arith) next)
    where
      next : Reaches n omf (i + 1) ((cmf + 1) % n)
      next =
          ⊎_elim
          (λ e. ⊎_elim (λ w. inl (omega (arith, w.0, w.1))) (λ w. inr (omega (arith, w.0, w.1))) (wrap n (cmf + 1) (omega (arith, fits.cmf_below))))
          (λ e. ⊎_elim (λ w. inr (omega (arith, w.0, w.1))) (λ w. absurd (omega (arith, w.0, w.1))) (wrap n (cmf + 1) (omega (arith, fits.cmf_below))))
          there

  pub live-rollback : (k : ℕ) → k ≤ live_frames r - 1 → live_frames (moved_to ((cmf + n - k) % n) omf r) ≡ live_frames r - k
  unfolding live_between i
  live-rollback k h =
      ap (λ (x : ℕ). x + 1) (reaches-index n ((cmf + n - k) % n) omf (i - k) (mod-lt (cmf + n - k) (omega (arith, fits.omf_below))) fits.omf_below (omega (arith, below)) back)
      ∙ omega arith
    where
      back : Reaches n omf (i - k) ((cmf + n - k) % n)
      back =
          ⊎_elim
          (λ e. ⊎_elim (λ w. inr (omega (arith, w.0, w.1, below))) (λ w. inl (omega (arith, w.0, w.1))) (wrap n (cmf + n - k) (omega (arith, fits.cmf_below))))
          (λ e. ⊎_elim (λ w. inl (omega (arith, w.0, w.1))) (λ w. inr (omega (arith, w.0, w.1))) (wrap n (cmf + n - k) (omega (arith, fits.cmf_below))))
          there

  pub live-advance : (k : ℕ) → k ≤ live_frames r - 1 → live_frames (moved_to cmf ((omf + k) % n) r) ≡ live_frames r - k
  unfolding live_between i
  live-advance k h =
      ap (λ (x : ℕ). x + 1) (reaches-index n cmf ((omf + k) % n) (i - k) fits.cmf_below (mod-lt (omf + k) (omega (arith, fits.omf_below))) (omega (arith, below)) on)
      ∙ omega arith
    where
      on : Reaches n ((omf + k) % n) (i - k) cmf
      on =
          ⊎_elim
          (λ e. ⊎_elim (λ w. inl (omega (arith, w.0, w.1))) (λ w. absurd (omega (arith, w.0, w.1))) (wrap n (omf + k) (omega (arith, below, fits.omf_below))))
          (λ e. ⊎_elim (λ w. inr (omega (arith, w.0, w.1))) (λ w. inl (omega (arith, w.0, w.1))) (wrap n (omf + k) (omega (arith, below, fits.omf_below))))
          there
