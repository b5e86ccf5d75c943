-- Lines of a part, of the pool and of the archive: what a part has to do with the whole, and what a line written leaves as it was.
-- Assumes nothing.
use mathlib.Core.Path.{◌≡◌, sym, ◌∙◌, ap, ap₂}
use mathlib.Core.Logic.{◌⊎◌, inl, inr, ⊎_elim, ◌≢◌}
use mathlib.Core.List.{List, ◌++◌}
use Prim.Native.Nat.{ℕ, ◌+◌, ◌*◌, ◌-◌, ◌≤◌, ◌<◌}
use native.Mathlib.Omega.{arith}
use borrow.Rule.Slice.PartMut.{mid_of, post_of, put_mid, mid_len}
use lib.ListN.{length, take, drop, take-append-drop}
use lib.Seq.{length-take-le, drop-drop}
use Rattle.rules.specs.Line.{edit}
use Rattle.lists.specs.Lines.{line_at, paste_line, AsksBytes}
use Rattle.lists.proofs.Lines.{line-front, paste-front, paste-behind, read-other, apart}
use Rattle.lists.proofs.Values.{line-edit}
use Rattle.pages.specs.Lines.{page_line, with_page_line, archive_line, with_archive_line, AsksPage}

-- ---- the k bytes from a on, as a part
module _ (a k at : ℕ) (xs : List ℕ) (room : at + 16 ≤ length (mid_of a k xs)) where
  -- a line of the part is a line of the whole
  pub line-in-part : line_at (mid_of a k xs) at ≡ line_at xs (a + at)
  unfolding line_at
  line-in-part =
      sym (line-front (mid_of a k xs) (post_of a k xs) at room)
      ∙ (ap (λ (ys : List ℕ). line_at ys at) (take-append-drop k (drop a xs)) ∙ ap (take 16) (drop-drop at a xs))

  -- and a line written to the part is written to the whole
  pub paste-in-part : (x : List ℕ) → a ≤ length xs → put_mid a k xs (paste_line (mid_of a k xs) at x) ≡ paste_line xs (a + at) x
  paste-in-part x h =
      ap (λ (ys : List ℕ). take a xs ++ ys)
      (sym (paste-front (mid_of a k xs) (post_of a k xs) at x room) ∙ ap (λ (ys : List ℕ). paste_line ys at x) (take-append-drop k (drop a xs)))
      ∙ (sym (paste-behind (take a xs) (drop a xs) at x)
      ∙ ap₂ (λ (ys : List ℕ) (n : ℕ). paste_line ys (n + at) x) (take-append-drop a xs) (length-take-le a xs h))

-- ---- a page's part of the pool, and a line of the archive
module _ (pool : List ℕ) (page slot : ℕ) (asks : AsksPage page slot (length pool)) where
  part_room : 16 * slot + 16 ≤ length (mid_of (128 * page) (length pool - 128 * page) pool)
  part_room = omega (arith, asks.room, asks.slot_below, mid_len (128 * page) (length pool) pool (omega arith))

  pub page-read : (r : List ℕ) → r ≡ line_at (mid_of (128 * page) (length pool - 128 * page) pool) (16 * slot) → r ≡ page_line pool page slot
  page-read r e = e ∙ line-in-part (128 * page) (length pool - 128 * page) (16 * slot) pool part_room

  pub page-written : (x now : List ℕ) → now ≡ paste_line (mid_of (128 * page) (length pool - 128 * page) pool) (16 * slot) x
      → put_mid (128 * page) (length pool - 128 * page) pool now ≡ with_page_line pool page slot x
  page-written x now e =
      ap (put_mid (128 * page) (length pool - 128 * page) pool) e
      ∙ paste-in-part (128 * page) (length pool - 128 * page) (16 * slot) pool part_room x (omega (arith, asks.room))

  -- the part of 16 bytes that is lent, by its two ends
  pub part-lent : take (128 * page + 16 * slot + 16 - (128 * page + 16 * slot)) (drop (128 * page + 16 * slot) pool) ≡ page_line pool page slot
  unfolding line_at
  part-lent =
      let n : 128 * page + 16 * slot + 16 - (128 * page + 16 * slot) ≡ 16 = omega arith in
      ap (λ (k : ℕ). take k (drop (128 * page + 16 * slot) pool)) n

-- ---- every other line of the archive and of the pool is as it was
pub archive-other : (archive x : List ℕ) (m n : ℕ) → 16 * m + 16 ≤ length archive → length x ≡ 16 → n ≢ m
    → archive_line (with_archive_line archive m x) n ≡ archive_line archive n
archive-other archive x m n room long d = read-other archive x (16 * m) room long (16 * n) (apart n m d)

-- a line of the pool by its page and slot
pages-apart : (p s q t : ℕ) → s < 8 → t < 8 → (p ≡ q → s ≡ t → ⊥)
    → (128 * p + 16 * s + 16 ≤ 128 * q + 16 * t) ⊎ (128 * q + 16 * t + 16 ≤ 128 * p + 16 * s)
pages-apart p s q t a b d =
    ⊎_elim (λ h. inl (omega arith)) (λ h. inr (omega arith)) (apart (8 * p + s) (8 * q + t) (λ e. d (omega arith) (omega arith)))

pub page-other : (pool x : List ℕ) (p s q t : ℕ) → 128 * p + 128 ≤ length pool → length x ≡ 16 → s < 8 → t < 8 → (q ≡ p → t ≡ s → ⊥)
    → page_line (with_page_line pool p s x) q t ≡ page_line pool q t
page-other pool x p s q t room long a b d =
    read-other pool x (128 * p + 16 * s) (omega arith) long (128 * q + 16 * t) (pages-apart q t p s b a d)

-- a value written where its line stands
pub page-edit : (pool : List ℕ) (page slot w o v : ℕ) → (AsksPage page slot (length pool)) × (AsksBytes w o) → (after : List ℕ) → after ≡ edit w (128 * page + 16 * slot + o) v pool
    → after ≡ with_page_line pool page slot (edit w o v (page_line pool page slot))
page-edit pool page slot w o v asks after e =
    e ∙ line-edit w o (128 * page + 16 * slot) pool asks.1 v (omega (arith, asks.0.slot_below, asks.0.room))
