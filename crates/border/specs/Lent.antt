-- The registers as they are lent: eight numbers in their order, as include/vcm.h has them.
use Rattle.std.specs.Prelude.{ℕ, List, get_or}
use Rattle.storage.specs.declared.Registers.{Registers}

unfoldable pub registers_from : List ℕ → Registers
registers_from xs =
    record {
      lines = get_or xs 0 0;
      frames = get_or xs 1 0;
      pages = get_or xs 2 0;
      cmf = get_or xs 3 0;
      omf = get_or xs 4 0;
      tag = get_or xs 5 0;
      first = get_or xs 6 0;
      used = get_or xs 7 0;
    }
