-- What a call leaves of the lent pieces' lengths and of what lies past the need, on any storage. Assumes nothing.
use mathlib.Core.Path.{◌≡◌, refl, sym, ◌∙◌, ap, subst}
use mathlib.Core.Bool.{Bool, true, false, cond}
use mathlib.Core.List.{List}
use Prim.Native.Nat.{ℕ, ◌+◌, ◌-◌, ◌*◌, ◌/◌, ◌≤◌, ◌<◌}
use native.Mathlib.Decide.{dec_lt}
use native.Mathlib.Omega.{arith}
use borrow.Author.Tests.{lt-ltb, le-ltb}
use lib.Dec.{eqb, ltb}
use lib.ListN.{length, get_or, drop, length-drop, length-set}
use lib.Seq.{ext_get_or, get_or-drop, drop-set-lt}
use Rattle.lists.proofs.Lists.{rewrite-drop, rewrite-length}
use Rattle.frames.specs.Circle.{index_of}
use Rattle.written.specs.Bits.{Written, written_of, AsksWritten, place_of}
use Rattle.written.proofs.Rolling.{group-place}
use Rattle.written.specs.Steps.{RolledBack, swept, next_tag, lowered, with_written, renewed}

-- The same of a list is true of what is left of it behind an element, if it is true of each element there.
drop-alike : (n : ℕ) (xs ys : List ℕ) → length xs ≡ length ys → ((i : ℕ) → n ≤ i → get_or xs i 0 ≡ get_or ys i 0) → drop n xs ≡ drop n ys
drop-alike n xs ys e h =
    ext_get_or 0 (drop n xs) (drop n ys) (length-drop n xs ∙ (ap (λ (k : ℕ). k - n) e ∙ sym (length-drop n ys)))
    (λ i b. get_or-drop n xs i 0 ∙ (h (n + i) (omega arith) ∙ sym (get_or-drop n ys i 0)))

-- ROLLBACK
module _ (w : Written) (tag kept : ℕ) (groups history : List ℕ) (next : ℕ) (r : RolledBack w tag kept groups history next) (small : tag < 256) where
  next_small : next < 256
  unfolding next_tag
  next_small = subst (λ (n : ℕ). n < 256) (sym r.next_is) (go (dec_lt tag 255))
    where
      go : Dec (tag < 255) → cond (ltb tag 255) (tag + 1) 0 < 256
      go (yes h) = subst (λ (b : Bool). cond b (tag + 1) 0 < 256) (sym (lt-ltb tag 255 h)) (omega arith)
      go (no h) = subst (λ (b : Bool). cond b (tag + 1) 0 < 256) (sym (le-ltb tag 255 (omega arith))) (omega arith)

  pub rolled-groups-long : length groups ≡ length w.groups
  unfolding swept
  rolled-groups-long = ap length r.groups_is ∙ go (ltb tag 255)
    where
      go : (b : Bool) → length (cond b w.groups (swept (written_of w.lines w.frames w.omf w.groups r.entry))) ≡ length w.groups
      go true = refl
      go false = rewrite-length _ w.groups (w.frames / 16 * w.lines)

  pub rolled-groups-past : drop (w.frames / 16 * w.lines) groups ≡ drop (w.frames / 16 * w.lines) w.groups
  unfolding swept
  rolled-groups-past = ap (drop (w.frames / 16 * w.lines)) r.groups_is ∙ go (ltb tag 255)
    where
      go : (b : Bool) → drop (w.frames / 16 * w.lines) (cond b w.groups (swept (written_of w.lines w.frames w.omf w.groups r.entry))) ≡ drop (w.frames / 16 * w.lines) w.groups
      go true = refl
      go false = rewrite-drop _ w.groups (w.frames / 16 * w.lines) (w.frames / 16 * w.lines) (omega arith)

  pub rolled-history-long : length history ≡ length w.history
  rolled-history-long = ap length r.history_is ∙ (length-set r.entry next 65535 ∙ r.enters.long)

  pub rolled-history-past : drop 256 history ≡ drop 256 w.history
  rolled-history-past =
      ap (drop 256) r.history_is
      ∙ (drop-set-lt 256 r.entry next 65535 next_small ∙ drop-alike 256 r.entry w.history r.enters.long (λ i h. r.enters.past i (omega arith)))

-- ADVANCE: the history
module _ (k : ℕ) (history : List ℕ) where
  pub lowered_long : length (lowered k history) ≡ length history
  unfolding lowered
  lowered_long = rewrite-length _ history 256

  pub lowered-past : drop 256 (lowered k history) ≡ drop 256 history
  unfolding lowered
  lowered-past = rewrite-drop _ history 256 256 (omega arith)

-- WRITE
module _ (w : Written) (tag l i : ℕ) where
  pub written-long : length (with_written w tag l i) ≡ length w.groups
  unfolding with_written
  written-long = length-set w.groups _ _

  pub written-past : AsksWritten w → l < w.lines → drop (w.frames / 16 * w.lines) (with_written w tag l i) ≡ drop (w.frames / 16 * w.lines) w.groups
  unfolding with_written
  written-past lent b = drop-set-lt (w.frames / 16 * w.lines) w.groups _ _ (group-place w lent i l b)

-- What is true of the groups and of those with a bit written is true of those renewed.
pub renewed-either : (w : Written) (tag l f : ℕ) (P : List ℕ → Type 0) → P w.groups → P (with_written w tag l (index_of w.frames w.omf f)) → P (renewed w tag l f)
unfolding renewed
renewed-either w tag l f P kept written = go (eqb (get_or w.groups (place_of w.lines (f / 16) l) 0 / 65536) tag)
  where
    go : (b : Bool) → P (cond b w.groups (with_written w tag l (index_of w.frames w.omf f)))
    go true = kept
    go false = written
