-- A line that is written in a frame already gets the current tag: what the code has is the definition, and where that tag is open it is
-- what writing gives. Assumes nothing.
use mathlib.Core.Path.{◌≡◌, refl, sym, ◌∙◌, ap, ap₂}
use mathlib.Core.List.{List}
use mathlib.Core.Bool.{Bool, true, cond}
use Prim.Native.Nat.{ℕ, ◌+◌, ◌-◌, ◌*◌, ◌/◌, ◌%◌, ◌^◌, ◌≤◌, ◌<◌, min}
use native.Mathlib.Nat.{add-mul, one-mul, mul_assoc, mul_comm, div-add-mod'}
use native.Mathlib.Decide.{ℕ_discrete}
use native.Mathlib.Omega.{arith}
use borrow.Author.Tests.{eqb-true, eq-eqb, ne_eqb}
use lib.ListN.{get_or}
use lib.Pow.{pow-add, shr-shr, mod-mod-pow}
use lib.Seq.{set-get_or}
use Rattle.rules.proofs.Tests.{both_true}
use Rattle.frames.specs.Circle.{index_of, frame_at}
use Rattle.frames.proofs.Circle.{index_below, frame-index}
use Rattle.numbers.specs.Digits.{digit, bit, range_of, set_at}
use Rattle.numbers.proofs.Digits.{digit-below}
use Rattle.written.specs.Bits.{Written, Asks, place_of, bound_of, standing, effective, first_index, before_wrap, after_wrap, cut_of, window_of}
use Rattle.written.specs.Steps.{regrouped, with_written, renewed}
use Rattle.written.proofs.Setting.{set_told}
use Rattle.written.proofs.Unsetting.{bit_is}

-- What the calls ask.
module _ (w : Written) (l f tag : ℕ) (a : Asks w l f × (tag < 256)) where
  pub renew-asks : (i : ℕ) → i ≡ index_of w.frames w.omf f → Asks w l i × (tag < 256)
  renew-asks i e = (
    record {
      lent = a.0.lent;
      line_below = a.0.line_below;
      index_below = omega (arith, index_below w.frames w.omf a.0.lent.omf_below f);
    },
    a.1,
  )

-- The two ends, in the form in which the code has the group and the test.
module _ (w : Written) (l f tag g : ℕ) (at-group : g ≡ get_or w.groups (place_of w.lines (f / 16) l) 0) where
  pub renew-stays : g / 65536 ≡ tag → w.groups ≡ renewed w tag l f
  unfolding renewed
  renew-stays e =
      sym (ap (λ (t : Bool). cond t w.groups (with_written w tag l (index_of w.frames w.omf f)))
      (eq-eqb _ tag (ap (λ (z : ℕ). z / 65536) (sym at-group) ∙ e)))

  pub renew-told : (i : ℕ) (after : List ℕ) → (g / 65536 ≡ tag → ⊥) → i ≡ index_of w.frames w.omf f → after ≡ with_written w tag l i
      → after ≡ renewed w tag l f
  unfolding renewed
  renew-told i after d ei e =
      e ∙ (ap (with_written w tag l) ei
      ∙ sym (ap (λ (t : Bool). cond t w.groups (with_written w tag l (index_of w.frames w.omf f)))
      (ne_eqb _ tag (λ z. d (ap (λ (x : ℕ). x / 65536) at-group ∙ z)))))

-- A digit that is set, set again.
set-again : (x p : ℕ) → digit x p ≡ 1 → set_at x p ≡ x
unfolding digit set_at
set-again x p e =
    let half : ℕ = x / 2 ^ (p + 1) in
    let odd : x / 2 ^ p ≡ half * 2 + 1 = omega (arith, shr-shr x p 1) in
    let top : half * 2 ^ (p + 1) ≡ half * 2 * 2 ^ p = ap (λ (n : ℕ). half * n) (pow-add 2 p 1 ∙ mul_comm (2 ^ p) 2) ∙ sym (mul_assoc half 2 (2 ^ p)) in
    omega (arith, top, ap (λ (n : ℕ). n * 2 ^ p) odd, add-mul (half * 2) 1 (2 ^ p), one-mul (2 ^ p), div-add-mod' x (2 ^ p))

-- The digits below a place and those from it on.
range-whole : (g u : ℕ) → u ≤ 16 → range_of g 0 u + range_of g u 16 ≡ g % 65536
unfolding range_of
range-whole g u h =
    let i : 16 ≡ 16 - u + u = omega arith in
    let low : g % 65536 % 2 ^ u ≡ g % 2 ^ u = ap (λ (n : ℕ). g % 2 ^ n % 2 ^ u) i ∙ mod-mod-pow g (16 - u) u in
    omega (arith, low, div-add-mod' (g % 65536) (2 ^ u))

-- With no bound all bits stand.
cut-open : (g s u : ℕ) → u ≤ 16 → s ≤ 4096 → cut_of g s u 0 65535 ≡ g % 65536
unfolding cut_of before_wrap after_wrap
cut-open g s u a b =
    let from : min u (0 - s) ≡ 0 = omega arith in
    let end : min u (65535 - s) ≡ u = omega arith in
    let from' : min 16 (0 + u) ≡ u = omega arith in
    let end' : min 16 (65535 + u) ≡ 16 = omega arith in
    ap₂ (λ (x y : ℕ). x + y) (ap₂ (range_of g) from end) (ap₂ (range_of g) from' end') ∙ range-whole g u a

window-open : (n omf area g : ℕ) → omf < n → n ≤ 4096 → window_of n omf area g 0 65535 ≡ g % 65536
unfolding window_of first_index
window-open n omf area g h few =
    cut-open g (index_of n omf (area * 16)) _ (native.Mathlib.Nat.min-le_left 16 _) (omega (arith, index_below n omf h (area * 16)))

-- So a group with the current tag, that one open, and the bit set is what setting the bit makes of it.
group-same : (n omf f tag g : ℕ) → omf < n → n ≤ 4096 → g / 65536 ≡ tag → bit g (f % 16) ≡ true → g ≡ regrouped n omf f 65535 tag g
unfolding regrouped bit
group-same n omf f tag g h few e b =
    let low : digit (g % 65536) (f % 16) ≡ digit g (f % 16) = digit-below (g % 65536) g 16 (f % 16) (omega arith) (omega arith) in
    let own : digit g (f % 16) ≡ 1 = eqb-true _ 1 b in
    let bits : set_at (window_of n omf (f / 16) g 0 65535) (f % 16) ≡ g % 65536 =
    ap (λ (x : ℕ). set_at x (f % 16)) (window-open n omf (f / 16) g h few) ∙ set-again (g % 65536) (f % 16) (low ∙ own)
    in
    omega (arith, bits)

-- On written bits whose current tag is open, a line that is written in the frame already and renewed has what writing gives.
pub renewed-written : (w : Written) (tag l f : ℕ) → Asks w l (index_of w.frames w.omf f) → f < w.frames → tag < 256 → get_or w.history tag 0 ≡ 65535
    → effective w (index_of w.frames w.omf f) l ≡ true → renewed w tag l f ≡ with_written w tag l (index_of w.frames w.omf f)
unfolding standing
renewed-written w tag l f a b small open_tag stands = go (ℕ_discrete (g / 65536) tag)
  where
    i : ℕ
    i = index_of w.frames w.omf f

    at : ℕ
    at = place_of w.lines (f / 16) l

    g : ℕ
    g = get_or w.groups at 0

    same : f ≡ frame_at w.frames w.omf i
    same = sym (frame-index w.frames w.omf a.lent.omf_below f b)

    set_there : bit g (f % 16) ≡ true
    set_there = (both_true (bit g (f % 16)) _ (sym (bit_is w l i f g same refl) ∙ stands)).0

    go : Dec (g / 65536 ≡ tag) → renewed w tag l f ≡ with_written w tag l i
    go (yes e) =
        let of : g / 65536 % 256 ≡ tag = omega arith in
        let bound : 65535 ≡ bound_of w.history g = sym (ap (λ (t : ℕ). get_or w.history t 0) of ∙ open_tag) in
        sym (renew-stays w l f tag g refl e)
        ∙ set_told w l i tag f g 65535 g w.groups same refl (bound, omega arith) (group-same w.frames w.omf f tag g a.lent.omf_below a.lent.frames_few e set_there)
        (sym (set-get_or w.groups at 0))
    go (no d) = sym (renew-told w l f tag g refl i _ d refl refl)
