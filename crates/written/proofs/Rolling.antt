-- A rollback: of all effective bits just those of the kept frames stay, and the written bits stay well-formed. Assumes nothing.
use mathlib.Core.Path.{◌≡◌, refl, sym, ◌∙◌, ap, ap₂}
use mathlib.Core.Bool.{Bool, true, false, cond, ◌&&◌, and-true, and-false, and_assoc}
use mathlib.Core.List.{List}
use Prim.Native.Nat.{ℕ, ◌+◌, ◌*◌, ◌/◌, ◌%◌, ◌≤◌, ◌<◌, min}
use native.Mathlib.Decide.{dec_lt, ℕ_discrete}
use native.Mathlib.Omega.{arith}
use borrow.Author.Tests.{lt-ltb, le-ltb}
use lib.Arith.{digits_div}
use lib.Dec.{ltb, leb-zero}
use lib.ListN.{length, get_or, set, length-set}
use lib.Seq.{get_or-set_same, get_or-set_other}
use Rattle.frames.specs.Circle.{frame_at, index_of}
use Rattle.numbers.specs.Digits.{bit}
use Rattle.frames.proofs.Circle.{frame_below, index-frame}
use Rattle.written.specs.Bits.{Written, written_of, AsksWritten, place_of, tag_of, bound_of, standing, effective}
use Rattle.written.specs.Steps.{masked_of, Ordered, entered, Entered, swept, next_tag, RolledBack}
use Rattle.written.specs.Well.{WellBits}
use Rattle.lists.proofs.Lists.{rewrite-at, rewrite-length}
use Rattle.written.proofs.Areas.{place-below, area_below, lent-kept}
use Rattle.written.proofs.Windows.{window-small, window-bit}

ltb-min : (k a b : ℕ) → ltb k (min a b) ≡ (ltb k a && ltb k b)
ltb-min k a b = go (dec_lt k a) (dec_lt k b)
  where
    go : Dec (k < a) → Dec (k < b) → ltb k (min a b) ≡ (ltb k a && ltb k b)
    go (yes p) (yes q) = lt-ltb k (min a b) (omega arith) ∙ sym (ap₂ (λ (x y : Bool). x && y) (lt-ltb k a p) (lt-ltb k b q))
    go (yes p) (no q) = le-ltb k (min a b) (omega arith) ∙ sym (ap₂ (λ (x y : Bool). x && y) (lt-ltb k a p) (le-ltb k b (omega arith)))
    go (no p) q = le-ltb k (min a b) (omega arith) ∙ sym (ap (λ (x : Bool). x && ltb k b) (le-ltb k a (omega arith)))

-- where a frame's group stands
pub group-place : (w : Written) → AsksWritten w → (k m : ℕ) → m < w.lines → place_of w.lines (frame_at w.frames w.omf k / 16) m < w.frames / 16 * w.lines
group-place w q k m b =
    place-below w.lines (w.frames / 16) (frame_at w.frames w.omf k / 16) m
    (area_below w.frames (frame_at w.frames w.omf k) q.frames_by (frame_below w.frames w.omf q.omf_below k)) b

module _ (w : Written) (tag kept live : ℕ) (q : WellBits w tag live) (entry : List ℕ) (h : Entered tag kept w.history entry) where
  abbrev bound : ℕ → ℕ
  bound t = get_or w.history t 0

  -- each used entry is as deep as the target, or deeper
  entry-is : (t : ℕ) → t ≤ tag → get_or entry t 0 ≡ min (bound t) kept
  unfolding entered
  entry-is t b =
      ap (λ (xs : List ℕ). get_or xs t 0) (h.exact q.ordered)
      ∙ rewrite-at (λ _ e. min e kept) w.history (tag + 1) t (omega arith) (omega (arith, q.lent.history_long, q.tag_below))

  -- so a bit whose tag is used stands just if it stood and its frame is kept
  stands-kept : (g p k : ℕ) → tag_of g ≤ tag → (bit g p && ltb k (get_or entry (tag_of g) 0)) ≡ (standing g p k (bound_of w.history g) && ltb k kept)
  unfolding standing
  stands-kept g p k b =
      ap (λ (z : Bool). bit g p && z) (ap (ltb k) (entry-is (tag_of g) b) ∙ ltb-min k (bound (tag_of g)) kept)
      ∙ sym (and_assoc (bit g p) (ltb k (bound (tag_of g))) (ltb k kept))

  -- and a bit that is not set does not stand
  stands-not : (g p k x : ℕ) → bit g p ≡ false → (bit g p && ltb k x) ≡ (standing g p k (bound_of w.history g) && ltb k kept)
  unfolding standing
  stands-not g p k x e =
      ap (λ (z : Bool). z && ltb k x) e ∙ sym (ap (λ (z : Bool). z && ltb k (bound_of w.history g) && ltb k kept) e)

  module _ (k m : ℕ) (b : k < w.frames) (c : m < w.lines) where
    abbrev f : ℕ
    f = frame_at w.frames w.omf k

    abbrev at : ℕ
    at = place_of w.lines (f / 16) m

    abbrev g : ℕ
    g = get_or w.groups at 0

    -- with tags left
    next-stands : tag < 255 → standing g (f % 16) k (bound_of (set entry (tag + 1) 65535) g) ≡ (standing g (f % 16) k (bound_of w.history g) && ltb k kept)
    unfolding standing
    next-stands room = go (bit g (f % 16)) refl
      where
        go : (t : Bool) → bit g (f % 16) ≡ t
            → (bit g (f % 16) && ltb k (bound_of (set entry (tag + 1) 65535) g)) ≡ (standing g (f % 16) k (bound_of w.history g) && ltb k kept)
        go true e =
            let used = q.tags at (f % 16) (group-place w q.lent k m c) (omega arith) e in
            ap (λ (x : ℕ). bit g (f % 16) && ltb k x) (get_or-set_other entry (tag + 1) (tag_of g) 65535 0 (λ z. omega arith))
            ∙ stands-kept g (f % 16) k used
        go false e = stands-not g (f % 16) k _ e

    -- and at the last one
    abbrev new : ℕ
    new = masked_of w.frames w.omf (at / w.lines) entry g

    area-is : at / w.lines ≡ f / 16
    area-is = digits_div (f / 16) c

    entry-some : 0 < length entry
    entry-some = omega (arith, h.long, q.lent.history_long)

    new-bound : bound_of (set entry 0 65535) new ≡ 65535
    unfolding masked_of
    new-bound =
        let small = window-small w.frames w.omf (at / w.lines) g 0 (bound_of entry g) in
        let none : tag_of new ≡ 0 = omega (arith, small) in
        ap (λ (t : ℕ). get_or (set entry 0 65535) t 0) none ∙ get_or-set_same entry 0 65535 0 entry-some

    new-bit : bit new (f % 16) ≡ (bit g (f % 16) && ltb k (bound_of entry g))
    unfolding masked_of
    new-bit =
        let inside : at / w.lines * 16 + f % 16 ≡ f = omega (arith, area-is) in
        window-bit w.frames w.omf (at / w.lines) g 0 (bound_of entry g) q.lent.omf_below (f % 16)
        (rw inside (frame_below w.frames w.omf q.lent.omf_below k)) (omega arith)
        ∙ ap₂ (λ (t : Bool) (x : ℕ). bit g (f % 16) && (t && ltb x (bound_of entry g))) (leb-zero (index_of w.frames w.omf (at / w.lines * 16 + f % 16)))
        (ap (index_of w.frames w.omf) inside ∙ index-frame w.frames w.omf q.lent.omf_below k b)

    swept-stands : 255 ≤ tag → standing new (f % 16) k (bound_of (set entry 0 65535) new) ≡ (standing g (f % 16) k (bound_of w.history g) && ltb k kept)
    unfolding standing
    swept-stands full =
        ap₂ (λ (x y : Bool). x && y) new-bit (lt-ltb k _ (omega (arith, new-bound, q.lent.frames_few)))
        ∙ (and-true (bit g (f % 16) && ltb k (bound_of entry g)) ∙ stands-kept g (f % 16) k (omega (arith, q.tag_below)))

  abbrev last : Written
  last = written_of w.lines w.frames w.omf w.groups entry

  swept-group : (at : ℕ) → at < w.frames / 16 * w.lines → get_or (swept last) at 0 ≡ masked_of w.frames w.omf (at / w.lines) entry (get_or w.groups at 0)
  unfolding swept
  swept-group at b =
      rewrite-at (λ at g. masked_of w.frames w.omf (at / w.lines) entry g) w.groups (w.frames / 16 * w.lines) at b
      (omega (arith, q.lent.groups_long))

-- Of all effective bits just those of the kept frames stay,
module _ (w : Written) (tag kept live : ℕ) (q : WellBits w tag live) (groups history : List ℕ) (next : ℕ) (r : RolledBack w tag kept groups history next) where
  abbrev pub rolled : Written
  rolled = written_of w.lines w.frames w.omf groups history

  -- with tags left, and at the last one
  kept_case : tag < 255 → (groups ≡ w.groups) × (next ≡ tag + 1) × (history ≡ set r.entry (tag + 1) 65535)
  unfolding next_tag
  kept_case b =
      let t = lt-ltb tag 255 b in
      let e : next ≡ tag + 1 = r.next_is ∙ ap (λ (z : Bool). cond z (tag + 1) 0) t in (
        r.groups_is ∙ ap (λ (z : Bool). cond z w.groups (swept (last w tag kept live q r.entry r.enters))) t,
        e,
        r.history_is ∙ ap (λ (n : ℕ). set r.entry n 65535) e,
      )

  swept-case : 255 ≤ tag → (groups ≡ swept (last w tag kept live q r.entry r.enters)) × (next ≡ 0) × (history ≡ set r.entry 0 65535)
  unfolding next_tag
  swept-case b =
      let t = le-ltb tag 255 b in
      let e : next ≡ 0 = r.next_is ∙ ap (λ (z : Bool). cond z (tag + 1) 0) t in (
        r.groups_is ∙ ap (λ (z : Bool). cond z w.groups (swept (last w tag kept live q r.entry r.enters))) t,
        e,
        r.history_is ∙ ap (λ (n : ℕ). set r.entry n 65535) e,
      )

  pub rolled-effective : (k m : ℕ) → k < w.frames → m < w.lines → effective rolled k m ≡ (effective w k m && ltb k kept)
  unfolding effective
  rolled-effective k m b c = go (dec_lt tag 255)
    where
      at : ℕ
      at = place_of w.lines (frame_at w.frames w.omf k / 16) m

      look : List ℕ → List ℕ → Bool
      look gs hs = standing (get_or gs at 0) (frame_at w.frames w.omf k % 16) k (bound_of hs (get_or gs at 0))

      go : Dec (tag < 255) → look groups history ≡ (look w.groups w.history && ltb k kept)
      go (yes room) =
          let e = kept_case room in
          ap₂ look e.0 e.2 ∙ next-stands w tag kept live q r.entry r.enters k m b c room
      go (no full) =
          let e = swept-case (omega arith) in
          ap₂ look e.0 e.2
          ∙ (ap (λ (x : ℕ). standing x (frame_at w.frames w.omf k % 16) k (bound_of (set r.entry 0 65535) x))
          (swept-group w tag kept live q r.entry r.enters at (group-place w q.lent k m c))
          ∙ swept-stands w tag kept live q r.entry r.enters k m b c (omega arith))

  entry-long : length r.entry ≡ length w.history
  entry-long = r.enters.long

  -- and the written bits stay well-formed.
  rolled-tags : (at p : ℕ) → at < w.frames / 16 * w.lines → p < 16 → bit (get_or groups at 0) p ≡ true → tag_of (get_or groups at 0) ≤ next
  unfolding masked_of
  rolled-tags at p b c e = go (dec_lt tag 255)
    where
      go : Dec (tag < 255) → tag_of (get_or groups at 0) ≤ next
      go (yes room) =
          let d = kept_case room in
          let same = ap (λ (xs : List ℕ). get_or xs at 0) d.0 in
          let used = q.tags at p b c (sym (ap (λ (x : ℕ). bit x p) same) ∙ e) in
          omega (arith, d.1, used, ap tag_of same)
      go (no full) =
          let d = swept-case (omega arith) in
          let same = ap (λ (xs : List ℕ). get_or xs at 0) d.0 ∙ swept-group w tag kept live q r.entry r.enters at b in
          let small = window-small w.frames w.omf (at / w.lines) (get_or w.groups at 0) 0 (bound_of r.entry (get_or w.groups at 0)) in
          omega (arith, same, small)

  groups_long : length groups ≡ length w.groups
  unfolding swept
  groups_long =
      elim (dec_lt tag 255) [
        | yes room ↦ ap length (kept_case room).0
        | no full ↦ ap length (swept-case (omega arith)).0 ∙ rewrite-length _ w.groups (w.frames / 16 * w.lines)
      ]

  next-below : next < 256
  next-below = elim (dec_lt tag 255) [ yes room ↦ omega (arith, (kept_case room).1) | no full ↦ omega (arith, (swept-case (omega arith)).1) ]

  rolled-ordered : kept ≤ 65535 → Ordered next history
  rolled-ordered small t b = go (dec_lt tag 255)
    where
      used : (s : ℕ) → s ≤ tag → tag < 255 → get_or history s 0 ≡ min (get_or w.history s 0) kept
      used s c room =
          let d = kept_case room in
          ap (λ (xs : List ℕ). get_or xs s 0) d.2
          ∙ (get_or-set_other r.entry (tag + 1) s 65535 0 (λ z. omega arith) ∙ entry-is w tag kept live q r.entry r.enters s c)

      go : Dec (tag < 255) → get_or history t 0 ≤ get_or history (t + 1) 0
      go (no full) = absurd (omega (arith, (swept-case (omega arith)).1))
      go (yes room) = more (ℕ_discrete t tag)
        where
          more : Dec (t ≡ tag) → get_or history t 0 ≤ get_or history (t + 1) 0
          more (yes e) =
              let d = kept_case room in
              let top : get_or history (t + 1) 0 ≡ 65535 =
              ap₂ (λ (xs : List ℕ) (s : ℕ). get_or xs (s + 1) 0) d.2 e
              ∙ get_or-set_same r.entry (tag + 1) 65535 0 (omega (arith, entry-long, q.lent.history_long))
              in
              omega (arith, top, used t (omega arith) room)
          more (no n) =
              let below : t < tag = omega (arith, (kept_case room).1) in
              omega (arith, used t (omega arith) room, used (t + 1) (omega arith) room, q.ordered t below)

  pub rolled-well : kept ≤ 65535 → WellBits rolled next kept
  rolled-well small =
      record {
        lent =
            lent-kept w w.omf _ _ q.lent q.lent.omf_below groups_long (ap length r.history_is ∙ (length-set r.entry next 65535 ∙ entry-long));
        tag_below = next-below;
        tags = rolled-tags;
        open_tag =
            ap (λ (xs : List ℕ). get_or xs next 0) r.history_is
            ∙ get_or-set_same r.entry next 65535 0 (omega (arith, next-below, entry-long, q.lent.history_long));
        ordered = rolled-ordered small;
        only_live = λ k l a b c. rolled-effective k l b c ∙ (ap (λ (z : Bool). effective w k l && z) (le-ltb k kept a) ∙ and-false (effective w k l));
      }
