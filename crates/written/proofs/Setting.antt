-- Setting a written bit: what the code has is the definition, and of all effective bits just the new one is added. Assumes nothing.
use mathlib.Core.Path.{◌≡◌, refl, sym, ◌∙◌, ap, ap₂}
use mathlib.Core.List.{List}
use mathlib.Core.Bool.{Bool, true, false, ◌&&◌, ◌||◌, and-true, or-false, or-true}
use mathlib.Core.Logic.{◌≢◌}
use Prim.Native.Nat.{ℕ, ◌+◌, ◌*◌, ◌/◌, ◌%◌, ◌<◌}
use native.Mathlib.Decide.{ℕ_discrete, dec_lt}
use native.Mathlib.Omega.{arith}
use borrow.Author.Tests.{eq-eqb, ne_eqb, lt-ltb}
use lib.Arith.{digits_div, digits_mod}
use lib.Dec.{eqb, ltb, leb-zero}
use lib.ListN.{length, get_or, set}
use lib.Seq.{get_or-set_same, get_or-set_other}
use Rattle.frames.specs.Circle.{frame_at, index_of}
use Rattle.numbers.specs.Digits.{bit, set_at}
use Rattle.frames.proofs.Circle.{frame_below, index-frame}
use Rattle.numbers.proofs.Digits.{digit-below, digit-bit, bit-one, set-under, set_own, set-over, set-small}
use Rattle.written.specs.Bits.{Written, written_of, Asks, place_of, tag_of, tagged, bound_of, standing, effective, window_of}
use Rattle.written.specs.Steps.{AsksWindow, regrouped, with_written}
use Rattle.written.proofs.Areas.{asks-near}
use Rattle.written.proofs.Windows.{window-small, window-bit}

module _ (w : Written) (l i : ℕ) (a : Asks w l i) where
  pub set-in : (f at : ℕ) → f ≡ frame_at w.frames w.omf i → at ≡ place_of w.lines (f / 16) l → at < length w.groups
  set-in f at ef ea = rw ea (asks-near w l i f a ef).1

  pub set-asks : (f b : ℕ) → f ≡ frame_at w.frames w.omf i → b < 65536 → AsksWindow w.frames w.omf (f / 16) 0 b
  set-asks f b ef h =
      record {
        omf_below = a.lent.omf_below;
        area_below = omega (arith, frame_below w.frames w.omf a.lent.omf_below i);
        frames_few = a.lent.frames_few;
        from_few = omega arith;
        end_few = omega arith;
      }

pub set_told : (w : Written) (l i tag f g b r : ℕ) (after : List ℕ) → f ≡ frame_at w.frames w.omf i → g ≡ get_or w.groups (place_of w.lines (f / 16) l) 0
    → (b ≡ bound_of w.history g) × (b < 65536) → r ≡ regrouped w.frames w.omf f b tag g → after ≡ set w.groups (place_of w.lines (f / 16) l) r
    → after ≡ with_written w tag l i
unfolding with_written
set_told w l i tag f g b r after ef eg eb er e = cc

pub regroup-told : (frames omf f bound tag g kept r : ℕ) → kept ≡ window_of frames omf (f / 16) g 0 bound → r ≡ set_at kept (f % 16) → tag * 65536 + r ≡ regrouped frames omf f bound tag g
unfolding regrouped
regroup-told frames omf f bound tag g kept r ek er = ap (λ (n : ℕ). tag * 65536 + n) (er ∙ ap (λ (n : ℕ). set_at n (f % 16)) ek)

-- The parts of a group with its tag.
pub tagged-tag : (tag b : ℕ) → tag < 256 → b < 65536 → tag_of (tagged tag b) ≡ tag
tagged-tag tag b h k = omega arith

pub tagged-bit : (tag b q : ℕ) → b < 65536 → q < 16 → bit (tagged tag b) q ≡ bit b q
tagged-bit tag b q h c =
    digit-bit (tagged tag b) b q q
    (digit-below (tagged tag b) b 16 q (digits_mod tag {m = 65536} {r = b} h ∙ sym (native.Mathlib.Nat.mod-eq_of_lt {n = b} {m = 65536} h)) c)

-- Two groups in one place are one group.
pub place-area : (lines a b l m : ℕ) → l < lines → m < lines → place_of lines a l ≡ place_of lines b m → a ≡ b
place-area lines a b l m h k e = sym (digits_div a h) ∙ (ap (λ (n : ℕ). n / lines) e ∙ digits_div b k)

pub place-line : (lines a b l m : ℕ) → l < lines → m < lines → place_of lines a l ≡ place_of lines b m → l ≡ m
place-line lines a b l m h k e = sym (digits_mod a h) ∙ (ap (λ (n : ℕ). n % lines) e ∙ digits_mod b k)

module _ (w : Written) (tag l i : ℕ) (a : Asks w l i) (small : tag < 256) (open_tag : get_or w.history tag 0 ≡ 65535) where
  abbrev n : ℕ
  n = w.frames

  abbrev f : ℕ
  f = frame_at n w.omf i

  abbrev at : ℕ
  at = place_of w.lines (f / 16) l

  abbrev g : ℕ
  g = get_or w.groups at 0

  abbrev masked : ℕ
  masked = window_of n w.omf (f / 16) g 0 (bound_of w.history g)

  abbrev new : ℕ
  new = tagged tag (set_at masked (f % 16))

  new-small : set_at masked (f % 16) < 65536
  new-small = set-small 16 masked (f % 16) (window-small n w.omf (f / 16) g 0 (bound_of w.history g)) (omega arith)

  new-bound : bound_of w.history new ≡ 65535
  new-bound = ap (λ (t : ℕ). get_or w.history t 0) (tagged-tag tag (set_at masked (f % 16)) small new-small) ∙ open_tag

  -- the other bits of the group are those that stood
  kept-bit : (k q : ℕ) → k < n → f / 16 * 16 + q ≡ frame_at n w.omf k → q < 16 → q ≢ f % 16
      → bit new q ≡ (bit g q && ltb k (bound_of w.history g))
  kept-bit k q b e c d =
      tagged-bit tag (set_at masked (f % 16)) q new-small c
      ∙ (digit-bit (set_at masked (f % 16)) masked q q (elim (dec_lt q (f % 16)) [ yes h ↦ set-under masked (f % 16) q h | no h ↦ set-over masked (f % 16) q (omega arith) ])
      ∙ (window-bit n w.omf (f / 16) g 0 (bound_of w.history g) a.lent.omf_below q (rw e (frame_below n w.omf a.lent.omf_below k)) c
      ∙ ap₂ (λ (t : Bool) (x : ℕ). bit g q && (t && ltb x (bound_of w.history g))) (leb-zero (index_of n w.omf (f / 16 * 16 + q)))
      (ap (index_of n w.omf) e ∙ index-frame n w.omf a.lent.omf_below k b)))

  abbrev pub after : Written
  after = written_of w.lines n w.omf (with_written w tag l i) w.history

  -- what is read at a place, after
  abbrev then : ℕ → ℕ
  then p = get_or (set w.groups at new) p 0

  same-group : (k m : ℕ) → k < n → m < w.lines → place_of w.lines (frame_at n w.omf k / 16) m ≡ at
      → standing new (frame_at n w.omf k % 16) k (bound_of w.history new)
      ≡ (standing g (frame_at n w.omf k % 16) k (bound_of w.history g) || (eqb k i && eqb m l))
  unfolding standing
  same-group k m b c e = go (ℕ_discrete (frame_at n w.omf k % 16) (f % 16))
    where
      area : frame_at n w.omf k / 16 ≡ f / 16
      area = place-area w.lines _ _ m l c a.line_below e

      line : m ≡ l
      line = place-line w.lines _ _ m l c a.line_below e

      below : ltb k (bound_of w.history new) ≡ true
      below = lt-ltb k _ (omega (arith, new-bound, a.lent.frames_few))

      go : Dec (frame_at n w.omf k % 16 ≡ f % 16)
          → (bit new (frame_at n w.omf k % 16) && ltb k (bound_of w.history new))
          ≡ ((bit g (frame_at n w.omf k % 16) && ltb k (bound_of w.history g)) || (eqb k i && eqb m l))
      go (yes p) =
          let same : frame_at n w.omf k ≡ f = omega (arith, area, p) in
          let index : k ≡ i =
          sym (index-frame n w.omf a.lent.omf_below k b) ∙ (ap (index_of n w.omf) same ∙ index-frame n w.omf a.lent.omf_below i a.index_below)
          in
          ap₂ (λ (x y : Bool). x && y)
          (ap (bit new) p ∙ (tagged-bit tag (set_at masked (f % 16)) (f % 16) new-small (omega arith) ∙ bit-one (set_at masked (f % 16)) (f % 16) (set_own masked (f % 16)))) below
          ∙ sym (ap₂ (λ (x y : Bool). (bit g (frame_at n w.omf k % 16) && ltb k (bound_of w.history g)) || (x && y)) (eq-eqb k i index) (eq-eqb m l line)
          ∙ or-true (bit g (frame_at n w.omf k % 16) && ltb k (bound_of w.history g)))
      go (no d) =
          let other : k ≢ i = λ z. d (ap (λ (y : ℕ). frame_at n w.omf y % 16) z) in
          ap₂ (λ (x y : Bool). x && y)
          (kept-bit k (frame_at n w.omf k % 16) b (omega (arith, area)) (omega arith) d) below
          ∙ (and-true (bit g (frame_at n w.omf k % 16) && ltb k (bound_of w.history g))
          ∙ sym (ap (λ (x : Bool). (bit g (frame_at n w.omf k % 16) && ltb k (bound_of w.history g)) || (x && eqb m l)) (ne_eqb k i other)
          ∙ or-false (bit g (frame_at n w.omf k % 16) && ltb k (bound_of w.history g))))

  other-group : (k m : ℕ) → place_of w.lines (frame_at n w.omf k / 16) m ≢ at → (eqb k i && eqb m l) ≡ false
  other-group k m d = go (ℕ_discrete k i) (ℕ_discrete m l)
    where
      go : Dec (k ≡ i) → Dec (m ≡ l) → (eqb k i && eqb m l) ≡ false
      go (yes p) (yes q) = absurd (d (ap₂ (λ (x y : ℕ). place_of w.lines (frame_at n w.omf x / 16) y) p q))
      go (yes p) (no q) = ap₂ (λ (x y : Bool). x && y) (eq-eqb k i p) (ne_eqb m l q)
      go (no p) q = ap (λ (x : Bool). x && eqb m l) (ne_eqb k i p)

  -- For every line and frame the effective bits after are those before and the new one.
  pub set-effective : (k m : ℕ) → k < n → m < w.lines → effective after k m ≡ (effective w k m || (eqb k i && eqb m l))
  unfolding effective with_written regrouped
  set-effective k m b c = go (ℕ_discrete (place_of w.lines (frame_at n w.omf k / 16) m) at)
    where
      look : ℕ → Bool
      look x = standing x (frame_at n w.omf k % 16) k (bound_of w.history x)

      go : Dec (place_of w.lines (frame_at n w.omf k / 16) m ≡ at)
          → look (then (place_of w.lines (frame_at n w.omf k / 16) m))
          ≡ (look (get_or w.groups (place_of w.lines (frame_at n w.omf k / 16) m) 0) || (eqb k i && eqb m l))
      go (yes e) =
          ap look (ap then e ∙ get_or-set_same w.groups at new 0 (set-in w l i a f at refl refl))
          ∙ (same-group k m b c e ∙ ap (λ (x : ℕ). look x || (eqb k i && eqb m l)) (ap (λ (p : ℕ). get_or w.groups p 0) (sym e)))
      go (no d) =
          ap look (get_or-set_other w.groups at (place_of w.lines (frame_at n w.omf k / 16) m) new 0 d)
          ∙ sym (ap (λ (x : Bool). look (get_or w.groups (place_of w.lines (frame_at n w.omf k / 16) m) 0) || x) (other-group k m d)
          ∙ or-false (look (get_or w.groups (place_of w.lines (frame_at n w.omf k / 16) m) 0)))
