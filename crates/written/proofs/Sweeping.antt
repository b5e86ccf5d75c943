-- Loops over all groups or all entries: what the code has at each turn. Assumes nothing.
use mathlib.Core.Path.{◌≡◌, refl, sym, ◌∙◌, ap}
use mathlib.Core.Bool.{Bool, cond}
use mathlib.Core.List.{List}
use Prim.Native.Nat.{ℕ, ◌+◌, ◌*◌, ◌/◌, ◌-◌, ◌≤◌, ◌<◌, min}
use native.Mathlib.Nat.{add-zero, mul-le-mul, mul-le-mul_right, suc-mul, zero-mul}
use native.Mathlib.Numerals.{add-one}
use native.Mathlib.Omega.{arith}
use borrow.Author.Tests.{eq-eqb, ne_eqb, lt-ltb, le-ltb}
use lib.Arith.{digits_div}
use lib.Bits.{bit_and}
use lib.ListN.{length, get_or, set}
use Rattle.lists.specs.Lists.{rewrite, rewrite_from}
use Rattle.written.specs.Bits.{Written, written_of, AsksWritten, Near, place_of, tag_of, bound_of, first_index, cut_of, window_of}
use Rattle.written.specs.Steps.{masked_of, Masks, Entered, swept, lower_bound, next_tag, RolledBack}
use Rattle.lists.proofs.Lists.{Rewritten, rewrite-start, rewrite-end, rewrite-behind}
use Rattle.written.proofs.Windows.{cut-and}

-- the groups are few
pub count-few : (lines frames : ℕ) → lines ≤ 4096 → frames ≤ 4096 → frames / 16 * lines ≤ 1048576
count-few lines frames a b = mul-le-mul {n₁ = frames / 16} {m₁ = lines} {n₂ = 256} {m₂ = 4096} (omega arith) a

-- The masks of the first n tags, as the loop has them.
module _ (s u : ℕ) (history : List ℕ) where
  pub record MasksTo (n : ℕ) (masks : List ℕ) : Type 0 where
    pub few : n ≤ 256
    pub long : length masks ≡ 256
    pub done : (t : ℕ) → t < n → get_or masks t 0 ≡ cut_of 65535 s u 0 (get_or history t 0)

-- What the sweep of an area stores for a group.
pub masked-told : (frames omf area s u : ℕ) (history masks : List ℕ) → (s ≡ first_index frames omf area) × (s < frames) → u ≡ min 16 (frames - s)
    → Masks s u history masks → (g : ℕ) → bit_and g (get_or masks (tag_of g) 0) ≡ masked_of frames omf area history g
unfolding masked_of window_of
masked-told frames omf area s u history masks es eu h g =
    let e : bit_and g (get_or masks (tag_of g) 0) ≡ cut_of g s u 0 (bound_of history g) =
    ap (bit_and g) (h (tag_of g) (omega arith)) ∙ cut-and g s u (bound_of history g) (omega (arith, eu))
    in
    cc

-- The groups of a working area lie in the lent list,
pub area-near : (w : Written) (area line now : ℕ) → AsksWritten w → area < w.frames / 16 → now ≡ length w.groups → line < w.lines
    → Near w.lines area line × (place_of w.lines area line < now)
area-near w area line now a b e c = (
  record { lines_few = a.lines_few; area_few = omega (arith, a.frames_few); line_few = omega (arith, a.lines_few) },
  omega (arith, a.groups_long, mul-le-mul_right w.lines b, suc-mul area w.lines),
)

-- and a list that is rewritten area by area has these groups rewritten one turn later.
pub area-more : (lines area : ℕ) (h : ℕ → ℕ → ℕ) (xs now after : List ℕ) → Rewritten (area * lines) (λ at g. h (at / lines) g) xs now
    → after ≡ rewrite_from (place_of lines area 0) lines (h area) now → Rewritten ((area + 1) * lines) (λ at g. h (at / lines) g) xs after
area-more lines area h xs now after done e =
    rw (add-one area, suc-mul area lines) (rewrite-behind {f = λ at g. h (at / lines) g} (area * lines) lines (h area) done
    (λ j x b. ap (λ (a : ℕ). h a x) (sym (digits_div area b))) after (rw (add-zero (area * lines)) at e))

-- At the start none are, and at the end all.
pub areas-start : (lines : ℕ) (f : ℕ → ℕ → ℕ) (xs : List ℕ) → Rewritten (0 * lines) f xs xs
areas-start lines f xs = rw (zero-mul lines) (rewrite-start f xs)

pub areas-end : (lines areas area : ℕ) {f : ℕ → ℕ → ℕ} {xs now : List ℕ} → Rewritten (area * lines) f xs now → area ≤ areas → areas ≤ area → now ≡ rewrite (areas * lines) f xs
areas-end lines areas area h a c =
    let e : area ≡ areas = omega arith in
    let d : area * lines ≡ areas * lines = ap (λ (n : ℕ). n * lines) e in
    rewrite-end _ h (omega (arith, d)) (omega (arith, d))

-- a bound that goes down, in the form in which the code has the tests
pub lower-open : (k e : ℕ) → e ≡ 65535 → e ≡ lower_bound k e
unfolding lower_bound
lower-open k e h = sym (ap (λ (t : Bool). cond t e (e - k)) (eq-eqb e 65535 h))

pub lower-else : (k e : ℕ) → (e ≡ 65535 → ⊥) → lower_bound k e ≡ e - k
unfolding lower_bound
lower-else k e h = ap (λ (t : Bool). cond t e (e - k)) (ne_eqb e 65535 h)

-- the two ends of a rollback
module _ (w : Written) (tag kept : ℕ) (entry : List ℕ) (h : Entered tag kept w.history entry) where
  pub rolled-next : tag < 255 → RolledBack w tag kept w.groups (set entry (tag + 1) 65535) (tag + 1)
  unfolding next_tag
  rolled-next b =
      let t = lt-ltb tag 255 b in
      record {
        entry = entry;
        enters = h;
        next_is = sym (ap (λ (z : Bool). cond z (tag + 1) 0) t);
        groups_is = sym (ap (λ (z : Bool). cond z w.groups (swept (written_of w.lines w.frames w.omf w.groups entry))) t);
        history_is = refl;
      }

  pub rolled-swept : (groups : List ℕ) → 255 ≤ tag → groups ≡ swept (written_of w.lines w.frames w.omf w.groups entry)
      → RolledBack w tag kept groups (set entry 0 65535) 0
  unfolding next_tag
  rolled-swept groups b e =
      let t = le-ltb tag 255 b in
      record {
        entry = entry;
        enters = h;
        next_is = sym (ap (λ (z : Bool). cond z (tag + 1) 0) t);
        groups_is = e ∙ sym (ap (λ (z : Bool). cond z w.groups (swept (written_of w.lines w.frames w.omf w.groups entry))) t);
        history_is = refl;
      }
