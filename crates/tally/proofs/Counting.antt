-- One answer more in a tally. Assumes nothing.
use mathlib.Core.Path.{◌≡◌}
use mathlib.Core.Bool.{not}
use Prim.Native.Nat.{ℕ, ◌+◌, ◌-◌, ◌<◌, ◌^◌, min}
use native.Mathlib.Decide.{dec_lt}
use native.Mathlib.Omega.{arith}
use borrow.Author.Tests.{lt-ltb, le-ltb, eq-eqb, ne_eqb}
use lib.Dec.{T, eqb}
use lib.Ieee.Bits.{is_true, is_false}
use Rattle.tally.specs.declared.Tally.{Tally}
use Rattle.tally.specs.Counts.{most, one_more, tally_of, tally_after}

-- One more, as std's `saturating_add` gives it.
pub saturated : (n : ℕ) → n < 2 ^ 64 → min (n + 1) (2 ^ 64 - 1) ≡ one_more n
unfolding one_more
saturated n h = go (dec_lt n most)
  where
    go : Dec (n < most) → min (n + 1) (2 ^ 64 - 1) ≡ one_more n
    go (yes k) = simp (lt-ltb n most k) (omega arith)
    go (no k) = simp (le-ltb n most (omega arith)) (omega arith)

-- What the test of the refusal n tells of the tally after it.
module _ (t : Tally) (n : ℕ) where
  pub after-ok : T (eqb n 0) → tally_of (one_more t.oks) t.noes ≡ tally_after t n
  unfolding tally_after
  after-ok is = simp (is_true (eqb n 0) is)

  pub after-no : T (not (eqb n 0)) → tally_of t.oks (one_more t.noes) ≡ tally_after t n
  unfolding tally_after
  after-no is = simp (is_false (eqb n 0) is)

-- The same with what the code tests and calls.
module _ (t : Tally) (n more : ℕ) where
  pub ok-more : t.oks < 2 ^ 64 → n ≡ 0 → more ≡ min (t.oks + 1) (2 ^ 64 - 1) → tally_of more t.noes ≡ tally_after t n
  ok-more h is e = rw (e, saturated t.oks h) (after-ok t n (rw (eq-eqb n 0 is) tt))

  pub no-more : t.noes < 2 ^ 64 → (n ≡ 0 → ⊥) → more ≡ min (t.noes + 1) (2 ^ 64 - 1) → tally_of t.oks more ≡ tally_after t n
  no-more h isnt e = rw (e, saturated t.noes h) (after-no t n (rw (ne_eqb n 0 isnt) tt))
