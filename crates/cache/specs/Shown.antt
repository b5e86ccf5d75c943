-- The cache as Figure 3's: which line each way of each set holds, and which way was used last.
use Rattle.std.specs.Prelude.{ℕ, ◌+◌, ◌*◌, cond, eqb, get_or}
use Rattle.std.proofs.Math.Option.{Option, none, some}
use Rattle.rules.specs.Figure3 as figure
use Rattle.rules.specs.Figure3.{Way}
use Rattle.rules.specs.Figure3.Way.{way0, way1}
use Rattle.cache.specs.declared.Cache.{Cache}
use Rattle.cache.specs.Entries.{held_line, is_valid}

-- The line of a way: that of its entry, if it is valid.
unfoldable pub line_in : Cache → ℕ → Option ℕ
line_in c e = cond (is_valid c e) (some (held_line c e)) none

-- Any number but 0 is way 1.
unfoldable pub way_of : ℕ → Way
way_of n = cond (eqb n 0) way0 way1

-- The ways of a set.
unfoldable pub shown : Cache → figure.Cache
shown c set = record { first = line_in c (2 * set); second = line_in c (2 * set + 1); last = way_of (get_or c.last set 0) }
