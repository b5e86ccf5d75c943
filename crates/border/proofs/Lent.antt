-- Lent registers with another number of pages in use. Assumes nothing.
use mathlib.Core.Path.{◌≡◌, ◌∙◌, ap}
use mathlib.Core.List.{List}
use Prim.Native.Nat.{ℕ, ◌<◌}
use native.Mathlib.Omega.{arith}
use lib.ListN.{length, get_or, set}
use lib.Seq.{get_or-set_same, get_or-set_other}
use Rattle.storage.specs.Steps.{given_registers}
use Rattle.border.specs.Lent.{registers_from}

pub used-stored : (xs : List ℕ) (used : ℕ) → length xs ≡ 8 → (after : List ℕ) → after ≡ set xs 7 used → registers_from after ≡ given_registers (registers_from xs) used
unfolding registers_from
used-stored xs used long after e =
    let other : (i : ℕ) → i < 7 → get_or (set xs 7 used) i 0 ≡ get_or xs i 0 = λ i b. get_or-set_other xs 7 i used 0 (λ s. omega arith) in
    ap registers_from e
    ∙ (λ i.
    record {
      lines = other 0 (omega arith) i;
      frames = other 1 (omega arith) i;
      pages = other 2 (omega arith) i;
      cmf = other 3 (omega arith) i;
      omf = other 4 (omega arith) i;
      tag = other 5 (omega arith) i;
      first = other 6 (omega arith) i;
      used = get_or-set_same xs 7 used 0 (omega (arith, long)) i;
    })
