-- Tests of the groups of written bits. Assumes nothing.
use Rattle.std.specs.Prelude.{Option, Some, None}
use Rattle.std.specs.Option.{is_some}
use mathlib.Core.Path.{◌≡◌, refl, sym, ◌∙◌, ap}
use mathlib.Core.Bool.{Bool, true, false, not, ◌&&◌, false≢true}
use mathlib.Core.List.{List}
use Prim.Native.Nat.{ℕ, ◌+◌, ◌*◌, ◌/◌, ◌%◌, ◌≤◌, ◌<◌}
use native.Mathlib.Omega.{arith}
use borrow.Author.Tests.{le-leb}
use lib.Dec.{leb}
use lib.ListN.{length, get_or, take}
use Rattle.std.proofs.Math.Seq.{length-take-le}
use Rattle.std.proofs.lemmas.List.{get_or-take}
use Rattle.std.proofs.lemmas.Bool.Decides.{nat_tests}
use Rattle.std.proofs.lemmas.Grind.{common_steps}
use Rattle.std.specs.List.{IsEachAdjacentAnswer}
use Rattle.std.specs.Ordering.{is_le, nat_cmp}
use Rattle.rules.proofs.Count.{any_false, any_found}
use Rattle.rules.proofs.Tests.{both_true}
use Rattle.numbers.specs.Digits.{bit, newest_bit}
use Rattle.numbers.proofs.Search.{greatest-nothing, greatest-found}
use Rattle.written.specs.Bits.{Written, tag_of, effective, any_from, block_has}
use Rattle.written.specs.Steps.{Ordered}
use Rattle.written.proofs.Blocks.{false-from, true-from}
use Rattle.written.proofs.Runs.{both_of}
use Rattle.wellformed.specs.Decision.{Decides}
use Rattle.written.specs.Well.{TagsKnown, OnlyLive}
use Rattle.wellformed.specs.Parts.{AsksBits}
use Rattle.wellformed.proofs.Deciding.{says-yes, says-no, AllBelow}

-- A group that has no bit set, or a tag that is in use.
abbrev pub Known : (tag g : ℕ) → Type 0
Known tag g = (q : ℕ) → q < 16 → bit g q ≡ true → tag_of g ≤ tag

pub none-known : (tag g : ℕ) (r : Option ℕ) → r ≡ newest_bit g 0 16 → is_some r ≡ false → Known tag g
unfolding newest_bit
none-known tag g (Some p) e h q b s = absurd (false≢true (sym h))
none-known tag g None e h q b s =
    absurd
    (false≢true
    (sym (greatest-nothing 16 (λ q. leb 0 q && bit g q) (sym e) q b) ∙ both_of (leb 0 q) (bit g q) (le-leb 0 q (omega arith)) s))

module _ (count tag : ℕ) (groups : List ℕ) (at : ℕ) where
  -- What is read there of the first `count` groups.
  pub group-read : count ≤ length groups → at < length (take count groups) → (at < count) × (get_or (take count groups) at 0 ≡ get_or groups at 0)
  group-read few h =
      let below : at < count = omega (arith, h, length-take-le count groups few) in
      (below, get_or-take count groups at 0 below)

  pub tag-over : (g : ℕ) (r : Option ℕ) → at < count → g ≡ get_or groups at 0 → r ≡ newest_bit g 0 16 → is_some r ≡ true → tag < tag_of g
      → Decides false (TagsKnown count tag groups)
  unfolding newest_bit
  tag-over g None b same e h over = absurd (false≢true h)
  tag-over g (Some q) b same e h over =
      says-no (λ known.
      let found = greatest-found 16 (λ q. leb 0 q && bit g q) q (sym e) in
      let set : bit (get_or groups at 0) q ≡ true = ap (λ (x : ℕ). bit x q) (sym same) ∙ (both_true (leb 0 q) (bit g q) found.passes).1 in
      omega (arith, over, ap tag_of same, known at q b found.below set))

-- The history in order, as the sort of a slice is told.
pub sorted-ordered : (tag : ℕ) (history : List ℕ) (r : Bool) → tag < length history
    → IsEachAdjacentAnswer (λ x y b. is_le (nat_cmp x y) ≡ b) (take (tag + 1) history) r → Decides r (Ordered tag history)
sorted-ordered tag history true b h = says-yes (λ t c. grind (arith, common_steps, nat_tests, h t 0))
sorted-ordered tag history false b (t, c, h) = says-no (λ o. grind (arith, common_steps, nat_tests, o t, h 0))

-- Blocks without an effective bit from the first frame that is not live on.
module _ (w : Written) (live : ℕ) where
  abbrev pub Still : ℕ → Type 0
  Still block = block_has w block live w.frames ≡ false

  -- What the test of a block tells, yes and no.
  pub still-yes : (block : ℕ) (r : Bool) → r ≡ block_has w block live w.frames → not r ≡ true → Still block
  still-yes block true e t = absurd (false≢true t)
  still-yes block false e t = sym e

  pub still-no : (block : ℕ) (r : Bool) → r ≡ block_has w block live w.frames → not r ≡ false → Still block → ⊥
  still-no block true e t s = false≢true (sym (e ∙ s))
  still-no block false e t s = false≢true (sym t)

  pub live-fails : (block from : ℕ) (r : Bool) → live ≤ from → block < w.lines / 8 → r ≡ block_has w block from w.frames → r ≡ true → Decides false (OnlyLive w live)
  unfolding block_has
  live-fails block from r low b e t =
      let n = any_found 8 (λ n. any_from from w.frames (λ i. effective w i (block * 8 + n))) (sym e ∙ t) in
      let k = true-from from w.frames (λ i. effective w i (block * 8 + n.0)) n.2 in
      says-no (λ h. false≢true (sym (h k.0 (block * 8 + n.0) (omega (arith, k.1)) k.2 (omega (arith, n.1))) ∙ k.3))

  pub live-still : OnlyLive w live → (block : ℕ) → block < w.lines / 8 → Still block
  live-still h block b = go (block_has w block live w.frames) refl
    where
      go : (t : Bool) → block_has w block live w.frames ≡ t → t ≡ false
      go true e = sym ((live-fails block live true (omega arith) b (sym e) refl).always h)
      go false e = refl

  pub live_end : (n : ℕ) → AsksBits w live → AllBelow n Still → w.lines / 8 ≤ n → Decides true (OnlyLive w live)
  unfolding block_has
  live_end n a h b = says-yes still
    where
      still : OnlyLive w live
      still k l c d e =
          let whole : l ≡ l / 8 * 8 + l % 8 = omega arith in
          ap (effective w k) whole
          ∙ false-from live w.frames (λ i. effective w i (l / 8 * 8 + l % 8))
          (any_false 8 (λ n. any_from live w.frames (λ i. effective w i (l / 8 * 8 + n))) (h (l / 8) (omega (arith, a.lines_by))) (l % 8) (omega arith))
          k c d
