-- A reset, a mark and a written bit keep the written bits well-formed. Assumes nothing.
use mathlib.Core.Path.{◌≡◌, refl, sym, ◌∙◌, ap, ap₂}
use mathlib.Core.Bool.{Bool, true, false, ◌&&◌, ◌||◌}
use mathlib.Core.List.{List}
use Prim.Native.Nat.{ℕ, ◌+◌, ◌*◌, ◌/◌, ◌%◌, ◌≤◌, ◌<◌}
use native.Mathlib.Decide.{ℕ_discrete}
use native.Mathlib.Omega.{arith}
use borrow.Author.Tests.{ne_eqb}
use lib.Dec.{eqb}
use lib.ListN.{length, get_or, set, length-set}
use lib.Seq.{get_or-set_same, get_or-set_other}
use Rattle.frames.specs.Circle.{frame_at}
use Rattle.numbers.specs.Digits.{bit}
use Rattle.numbers.proofs.Digits.{bit-none, digit-past, set-small}
use Rattle.written.specs.Bits.{Written, written_of, AsksWritten, Asks, place_of, tag_of, effective, bound_of}
use Rattle.written.specs.Steps.{regrouped, with_written, blanked}
use Rattle.written.specs.Well.{WellBits}
use Rattle.lists.proofs.Lists.{rewrite-at, rewrite-length}
use Rattle.written.proofs.Areas.{lent-kept}
use Rattle.written.proofs.Runs.{standing-none}
use Rattle.written.proofs.Windows.{window-small}
use Rattle.written.proofs.Setting.{set-in, set-effective, tagged-tag}
use Rattle.written.proofs.Rolling.{group-place}

-- MARK: the next frame has no bit.
pub mark-keeps : (w : Written) (tag live : ℕ) → WellBits w tag live → WellBits w tag (live + 1)
mark-keeps w tag live q =
    record {
      lent = q.lent;
      tag_below = q.tag_below;
      tags = q.tags;
      open_tag = q.open_tag;
      ordered = q.ordered;
      only_live = λ k l a b c. q.only_live k l (omega arith) b c;
    }

-- WRITE
module _ (w : Written) (tag live l i : ℕ) (q : WellBits w tag live) (a : Asks w l i) (low : i < live) where
  abbrev at : ℕ
  at = place_of w.lines (frame_at w.frames w.omf i / 16) l

  abbrev new : ℕ
  new =
      regrouped w.frames w.omf (frame_at w.frames w.omf i) (bound_of w.history (get_or w.groups at 0)) tag (get_or w.groups at 0)

  set-length : length (with_written w tag l i) ≡ length w.groups
  unfolding with_written
  set-length = length-set w.groups at new

  set-tags : (p b : ℕ) → p < w.frames / 16 * w.lines → b < 16 → bit (get_or (with_written w tag l i) p 0) b ≡ true
      → tag_of (get_or (with_written w tag l i) p 0) ≤ tag
  unfolding with_written regrouped
  set-tags p b h c e = go (ℕ_discrete p at)
    where
      go : Dec (p ≡ at) → tag_of (get_or (with_written w tag l i) p 0) ≤ tag
      go (yes d) =
          let same = ap (λ (z : ℕ). get_or (with_written w tag l i) z 0) d ∙ get_or-set_same w.groups at new 0 (set-in w l i a _ at refl refl) in
          let small = set-small 16 _ (frame_at w.frames w.omf i % 16) (window-small w.frames w.omf (frame_at w.frames w.omf i / 16) (get_or w.groups at 0) 0 (bound_of w.history (get_or w.groups at 0))) (omega arith) in
          omega (arith, ap tag_of same ∙ tagged-tag tag _ q.tag_below small)
      go (no d) =
          let same = get_or-set_other w.groups at p new 0 d in
          omega (arith, ap tag_of same, q.tags p b h c (sym (ap (λ (x : ℕ). bit x b) same) ∙ e))

  pub set_keeps : WellBits (written_of w.lines w.frames w.omf (with_written w tag l i) w.history) tag live
  set_keeps =
      record {
        lent = lent-kept w w.omf _ w.history q.lent q.lent.omf_below set-length refl;
        tag_below = q.tag_below;
        tags = set-tags;
        open_tag = q.open_tag;
        ordered = q.ordered;
        only_live = λ k m c b d.
            set-effective w tag l i a q.tag_below q.open_tag k m b d
            ∙ ap₂ (λ (x y : Bool). x || (y && eqb m l)) (q.only_live k m c b d) (ne_eqb k i (λ e. omega arith));
      }

-- RESET, on any contents
module _ (lines frames : ℕ) (groups history : List ℕ) (some-lines : 0 < lines) (few-lines : lines ≤ 4096) (by : frames % 16 ≡ 0) (some-frames : 0 < frames) (few-frames : frames ≤ 4096)
    (enough : frames / 16 * lines ≤ length groups) (entries : 256 ≤ length history) where
  abbrev pub started : Written
  started = written_of lines frames 0 (blanked lines frames groups) (set history 0 65535)

  lent : AsksWritten started
  unfolding blanked
  lent =
      record {
        lines_some = some-lines;
        lines_few = few-lines;
        frames_by = by;
        frames_few = few-frames;
        omf_below = some-frames;
        groups_long = omega (arith, rewrite-length (λ _ g. 0) groups (frames / 16 * lines));
        history_long = omega (arith, length-set history 0 65535);
      }

  blank-group : (at : ℕ) → at < frames / 16 * lines → get_or (blanked lines frames groups) at 0 ≡ 0
  unfolding blanked
  blank-group at b = rewrite-at (λ _ g. 0) groups (frames / 16 * lines) at b (omega arith)

  no-bit : (at p : ℕ) → at < frames / 16 * lines → bit (get_or (blanked lines frames groups) at 0) p ≡ false
  no-bit at p b = ap (λ (g : ℕ). bit g p) (blank-group at b) ∙ bit-none 0 p (digit-past 0 0 p (omega arith) (omega arith))

  pub started-effective : (k l : ℕ) → l < lines → effective started k l ≡ false
  unfolding effective
  started-effective k l b =
      standing-none _ (frame_at frames 0 k % 16) k _
      (no-bit (place_of lines (frame_at frames 0 k / 16) l) (frame_at frames 0 k % 16) (group-place started lent k l b))

  pub started-well : WellBits started 0 1
  started-well =
      record {
        lent = lent;
        tag_below = omega arith;
        tags = λ at p b c e. absurd (mathlib.Core.Bool.false≢true (sym (no-bit at p b) ∙ e));
        open_tag = get_or-set_same history 0 65535 0 (omega arith);
        ordered = λ t b. absurd (omega arith);
        only_live = λ k l a b c. started-effective k l c;
      }
