-- A search by halving: the edge that it keeps, and what the edge is where the numbers never fall. Assumes nothing.
use mathlib.Core.Path.{◌≡◌, sym, ap}
use mathlib.Core.Bool.{Bool, cond}
use mathlib.Core.List.{List}
use Prim.Native.Nat.{ℕ, zero, suc, ◌+◌, ◌/◌, ◌≤◌, ◌<◌}
use native.Mathlib.Omega.{arith}
use borrow.Author.Tests.{lt-ltb, le-ltb}
use lib.ListN.{length, get_or}
use Rattle.frames.specs.Circle.{index_of, frame_at}
use Rattle.frames.proofs.Circle.{frame_below}
use Rattle.pages.specs.Ring.{Rising, Splits, Leading, Leads, AsksRing, owner_index, index_at}

-- the index of an owner's frame
module _ (frames omf owner : ℕ) where
  pub index-high : frames ≤ owner / 512 → frames ≡ owner_index frames omf owner
  unfolding owner_index
  index-high h = sym (ap (λ (t : Bool). cond t (index_of frames omf (owner / 512)) frames) (le-ltb (owner / 512) frames h))

  pub index-own : owner / 512 < frames → index_of frames omf (owner / 512) ≡ owner_index frames omf owner
  unfolding owner_index
  index-own h = sym (ap (λ (t : Bool). cond t (index_of frames omf (owner / 512)) frames) (lt-ltb (owner / 512) frames h))

-- What a search by halving keeps, on any content: an edge between low and high.
pub record Edge (n : ℕ) (f : ℕ → ℕ) (limit low high : ℕ) : Type 0 where
  pub ordered : low ≤ high
  pub few : high ≤ n
  pub last : (i : ℕ) → i + 1 ≡ low → f i < limit
  pub next : high < n → limit ≤ f high

-- the loop's start, its two steps and its end
pub edge-start : (n : ℕ) (f : ℕ → ℕ) (limit : ℕ) → Edge n f limit 0 n
edge-start n f limit =
    record { ordered = omega arith; few = omega arith; last = λ i e. absurd (omega arith); next = λ h. absurd (omega arith) }

pub edge-up : (n : ℕ) (f : ℕ → ℕ) (limit low high middle : ℕ) → Edge n f limit low high → middle < high → f middle < limit → Edge n f limit (middle + 1) high
edge-up n f limit low high middle h b l =
    record { ordered = omega arith; few = h.few; last = λ i e. rw (same i e) l; next = h.next }
  where
    same : (i : ℕ) → i + 1 ≡ middle + 1 → i ≡ middle
    same i e = omega arith

pub edge-down : (n : ℕ) (f : ℕ → ℕ) (limit low high middle : ℕ) → Edge n f limit low high → low ≤ middle → middle < high → limit ≤ f middle → Edge n f limit low middle
edge-down n f limit low high middle h a b l =
    record { ordered = a; few = omega (arith, h.few); last = h.last; next = λ c. l }

-- Where the numbers never fall, an edge parts them.
pub edge-splits : (n : ℕ) (f : ℕ → ℕ) (limit r : ℕ) → Edge n f limit r r → Rising n f → Splits n f limit r
edge-splits n f limit zero h up =
    record { few = h.few; low = λ i b. absurd (omega arith); high = λ i a b. omega (arith, h.next (omega arith), up zero i a b) }
edge-splits n f limit (suc r) h up =
    record {
      few = h.few;
      low = λ i b. omega (arith, h.last r (omega arith), up i r (omega arith) (omega (arith, h.few)));
      high = λ i a b. omega (arith, h.next (omega arith), up (suc r) i a b);
    }

-- one after the other, it is found too
pub leads-splits : (n : ℕ) (f : ℕ → ℕ) (limit r : ℕ) → Leads n f limit r → Rising n f → Splits n f limit r
leads-splits n f limit r h up =
    record { few = h.few; low = h.low; high = λ i a b. omega (arith, h.stop (omega arith), up r i a b) }

pub edge-leading : (n : ℕ) (f : ℕ → ℕ) (limit low high : ℕ) → Edge n f limit low high → high ≤ low → Leading n f limit low
edge-leading n f limit low high h b =
    let e : high ≡ low = omega (arith, h.ordered) in
    let k : Edge n f limit low low = rw e at h in
    record { few = k.few; exact = edge-splits n f limit low k }

-- The same in the form in which the loop has it.
module _ (pages first used frames omf : ℕ) (owners : List ℕ) (ask : AsksRing pages first used frames omf (length owners)) where
  pub page-lent : (page middle : ℕ) → page ≡ frame_at pages first middle → page < length owners
  page-lent page middle e = omega (arith, frame_below pages first ask.first_below middle, ask.owners_long)

  pub halve-up : (limit low high page index : ℕ) → Edge used (index_at frames omf pages first owners) limit low high → low < high
      → page ≡ frame_at pages first ((low + high) / 2) → index ≡ owner_index frames omf (get_or owners page 0) → index < limit
      → Edge used (index_at frames omf pages first owners) limit ((low + high) / 2 + 1) high
  unfolding index_at
  halve-up limit low high page index h b p e l =
      edge-up used (index_at frames omf pages first owners) limit low high ((low + high) / 2) h (omega arith)
      (omega (arith, ap (λ (q : ℕ). owner_index frames omf (get_or owners q 0)) p))

  pub halve-down : (limit low high middle page index : ℕ) → Edge used (index_at frames omf pages first owners) limit low high → low ≤ middle → middle < high
      → page ≡ frame_at pages first middle → index ≡ owner_index frames omf (get_or owners page 0) → limit ≤ index
      → Edge used (index_at frames omf pages first owners) limit low middle
  unfolding index_at
  halve-down limit low high middle page index h a b p e l =
      edge-down used (index_at frames omf pages first owners) limit low high middle h a b
      (omega (arith, ap (λ (q : ℕ). owner_index frames omf (get_or owners q 0)) p))
