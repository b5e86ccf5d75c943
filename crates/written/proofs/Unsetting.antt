-- A frame's bits cleared in neighbouring groups: other bits, tags and groups stay. Assumes nothing.
use mathlib.Core.Path.{◌≡◌, sym, ◌∙◌, ap}
use mathlib.Core.Bool.{Bool, true, false, ◌&&◌, false≢true}
use mathlib.Core.Logic.{◌≢◌, ◌⊎◌, inl, inr}
use mathlib.Core.List.{List}
use Prim.Native.Nat.{ℕ, ◌+◌, ◌*◌, ◌/◌, ◌%◌, ◌≤◌, ◌<◌}
use native.Mathlib.Nat.{mul-le-mul, le_refl, suc-mul}
use native.Mathlib.Decide.{ℕ_discrete, dec_lt}
use native.Mathlib.Omega.{arith}
use lib.Dec.{ltb}
use lib.ListN.{length, get_or, drop}
use Rattle.lists.specs.Lists.{rewrite_from}
use Rattle.lists.proofs.Lists.{from-length, from-drop, from-outside, from-inside}
use Rattle.frames.specs.Circle.{frame_at}
use Rattle.numbers.specs.Digits.{digit, bit, unset_at}
use Rattle.numbers.proofs.Digits.{digit-below, digit-bit, bit-none, unset-under, unset-own, unset-over, unset-le}
use Rattle.written.specs.Bits.{Written, place_of, tag_of, bound_of, standing, effective}
use Rattle.written.specs.Steps.{unset_in, cleared_block}
use Rattle.written.proofs.Setting.{tagged-bit}

-- One group.
module _ (f g : ℕ) where
  few : unset_at (g % 65536) (f % 16) < 65536
  few = omega (arith, unset-le (g % 65536) (f % 16))

  pub unset-tag : tag_of (unset_in f g) ≡ tag_of g
  unfolding unset_in
  unset-tag = omega (arith, few)

  pub unset-gone : bit (unset_in f g) (f % 16) ≡ false
  unfolding unset_in
  unset-gone = tagged-bit (g / 65536) (unset_at (g % 65536) (f % 16)) (f % 16) few (omega arith) ∙ bit-none _ (f % 16) (unset-own (g % 65536) (f % 16))

  pub unset-other : (q : ℕ) → q < 16 → q ≢ f % 16 → bit (unset_in f g) q ≡ bit g q
  unfolding unset_in
  unset-other q b d =
      tagged-bit (g / 65536) (unset_at (g % 65536) (f % 16)) q few b
      ∙ digit-bit _ g q q (stays (dec_lt q (f % 16)) ∙ digit-below (g % 65536) g 16 q low b)
    where
      stays : Dec (q < f % 16) → digit (unset_at (g % 65536) (f % 16)) q ≡ digit (g % 65536) q
      stays (yes c) = unset-under (g % 65536) (f % 16) q c
      stays (no c) = unset-over (g % 65536) (f % 16) q (omega (arith, d))

      low : g % 65536 % 65536 ≡ g % 65536
      low = omega arith

-- One effective bit, in the form in which the code has it.
module _ (w : Written) (l i f g : ℕ) (at-frame : f ≡ frame_at w.frames w.omf i) (at-group : g ≡ get_or w.groups (place_of w.lines (f / 16) l) 0) where
  pub bit_is : effective w i l ≡ standing g (f % 16) i (bound_of w.history g)
  unfolding effective
  bit_is =
      sym ((λ j. standing (at-group j) (f % 16) i (bound_of w.history (at-group j)))
      ∙ ap (λ (z : ℕ). standing (get_or w.groups (place_of w.lines (z / 16) l) 0) (z % 16) i (bound_of w.history (get_or w.groups (place_of w.lines (z / 16) l) 0))) at-frame)

  pub has-not : (b : Bool) → b ≡ bit g (f % 16) → b ≡ false → b ≡ effective w i l
  unfolding standing
  has-not b e n = n ∙ sym (bit_is ∙ ap (λ (t : Bool). t && ltb i (bound_of w.history g)) (sym e ∙ n))

  pub has-told : (b : Bool) (bound : ℕ) → b ≡ bit g (f % 16) → b ≡ true → bound ≡ bound_of w.history g → ltb i bound ≡ effective w i l
  unfolding standing
  has-told b bound e n h = sym (bit_is ∙ (ap (λ (t : Bool). t && ltb i (bound_of w.history g)) (sym e ∙ n) ∙ ap (ltb i) (sym h)))

-- A frame's bits in a block's lines: no other bit and no tag changes.
pub record BlockCleared (lines f block : ℕ) (groups after : List ℕ) : Type 0 where
  pub long : length after ≡ length groups
  pub past : (m : ℕ) → place_of lines (f / 16) (block * 8) + 8 ≤ m → drop m after ≡ drop m groups
  pub tags : (at : ℕ) → tag_of (get_or after at 0) ≡ tag_of (get_or groups at 0)
  pub old : (at q : ℕ) → q < 16 → bit (get_or after at 0) q ≡ true → bit (get_or groups at 0) q ≡ true
  pub other : (h m : ℕ) → h ≢ f → m < lines → bit (get_or after (place_of lines (h / 16) m) 0) (h % 16) ≡ bit (get_or groups (place_of lines (h / 16) m) 0) (h % 16)
  pub own : (m : ℕ) → m / 8 ≡ block → bit (get_or after (place_of lines (f / 16) m) 0) (f % 16) ≡ false

module _ (lines f block : ℕ) (groups : List ℕ) (inside : block * 8 + 8 ≤ lines) (room : place_of lines (f / 16) (block * 8) + 8 ≤ length groups) where
  abbrev start : ℕ
  start = place_of lines (f / 16) (block * 8)

  abbrev after : List ℕ
  after = rewrite_from start 8 (unset_in f) groups

  -- a group is one of the eight, or as it was
  group-is : (at : ℕ) → (get_or after at 0 ≡ unset_in f (get_or groups at 0)) ⊎ (get_or after at 0 ≡ get_or groups at 0)
  group-is at = go (dec_lt at start) (dec_lt at (start + 8))
    where
      go : Dec (at < start) → Dec (at < start + 8) → (get_or after at 0 ≡ unset_in f (get_or groups at 0)) ⊎ (get_or after at 0 ≡ get_or groups at 0)
      go (yes a) b = inr (from-outside start (unset_in f) groups 8 at (inl a))
      go (no a) (yes b) = inl (from-inside start (unset_in f) groups 8 at (omega arith) b room)
      go (no a) (no b) = inr (from-outside start (unset_in f) groups 8 at (inr (omega arith)))

  group_tag : (at : ℕ) → (get_or after at 0 ≡ unset_in f (get_or groups at 0)) ⊎ (get_or after at 0 ≡ get_or groups at 0) → tag_of (get_or after at 0) ≡ tag_of (get_or groups at 0)
  group_tag at (inl e) = ap tag_of e ∙ unset-tag f (get_or groups at 0)
  group_tag at (inr e) = ap tag_of e

  unset-old : (g q : ℕ) → q < 16 → bit (unset_in f g) q ≡ true → Dec (q ≡ f % 16) → bit g q ≡ true
  unset-old g q b e (yes d) = absurd (false≢true (sym (ap (bit (unset_in f g)) d ∙ unset-gone f g) ∙ e))
  unset-old g q b e (no d) = sym (unset-other f g q b d) ∙ e

  group-old : (at q : ℕ) → q < 16 → bit (get_or after at 0) q ≡ true → (get_or after at 0 ≡ unset_in f (get_or groups at 0)) ⊎ (get_or after at 0 ≡ get_or groups at 0) → bit (get_or groups at 0) q ≡ true
  group-old at q b e (inl s) = unset-old (get_or groups at 0) q b (sym (ap (λ (g : ℕ). bit g q) s) ∙ e) (ℕ_discrete q (f % 16))
  group-old at q b e (inr s) = sym (ap (λ (g : ℕ). bit g q) s) ∙ e

  -- of another frame either the working area or the bit is another
  other-bit : (h m : ℕ) → h ≢ f → m < lines → bit (get_or after (place_of lines (h / 16) m) 0) (h % 16) ≡ bit (get_or groups (place_of lines (h / 16) m) 0) (h % 16)
  other-bit h m d b = go (ℕ_discrete (h % 16) (f % 16)) (group-is (place_of lines (h / 16) m))
    where
      far : h % 16 ≡ f % 16 → (h / 16 < f / 16) ⊎ (f / 16 < h / 16)
      far e = elim (dec_lt (h / 16) (f / 16)) [
        | yes a ↦ inl a
        | no a ↦ inr (omega (arith, d))
      ]

      outside : (h / 16 < f / 16) ⊎ (f / 16 < h / 16) → (place_of lines (h / 16) m < start) ⊎ (start + 8 ≤ place_of lines (h / 16) m)
      outside (inl a) = inl (omega (arith, mul-le-mul a (le_refl lines), suc-mul (h / 16) lines))
      outside (inr a) = inr (omega (arith, mul-le-mul a (le_refl lines), suc-mul (f / 16) lines))

      go : Dec (h % 16 ≡ f % 16) → (get_or after (place_of lines (h / 16) m) 0 ≡ unset_in f (get_or groups (place_of lines (h / 16) m) 0)) ⊎ (get_or after (place_of lines (h / 16) m) 0 ≡ get_or groups (place_of lines (h / 16) m) 0)
          → bit (get_or after (place_of lines (h / 16) m) 0) (h % 16) ≡ bit (get_or groups (place_of lines (h / 16) m) 0) (h % 16)
      go (yes e) s = ap (λ (g : ℕ). bit g (h % 16)) (from-outside start (unset_in f) groups 8 (place_of lines (h / 16) m) (outside (far e)))
      go (no e) (inl s) = ap (λ (g : ℕ). bit g (h % 16)) s ∙ unset-other f (get_or groups (place_of lines (h / 16) m) 0) (h % 16) (omega arith) e
      go (no e) (inr s) = ap (λ (g : ℕ). bit g (h % 16)) s

  pub block-cleared : BlockCleared lines f block groups (cleared_block lines f block groups)
  block-cleared =
      record {
        long = from-length start (unset_in f) groups 8;
        past = λ m b. from-drop start (unset_in f) groups 8 m b;
        tags = λ at. group_tag at (group-is at);
        old = λ at q b e. group-old at q b e (group-is at);
        other = other-bit;
        own = λ m e.
            ap (λ (g : ℕ). bit g (f % 16)) (from-inside start (unset_in f) groups 8 (place_of lines (f / 16) m) (omega arith) (omega arith) room)
            ∙ unset-gone f (get_or groups (place_of lines (f / 16) m) 0);
      }
