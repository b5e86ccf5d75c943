-- An origin as numbers, and LINE's bytes as they are copied: include/vcm.h has them in the same words.
use Rattle.std.specs.Prelude.{ℕ, cond, List, eqb, length}
use Rattle.rules.specs.Call.{Origin}
use Rattle.rules.specs.Call.Place.{in_frame, in_archive}
use Rattle.rules.specs.Call.Origin.{from_cache, from, empty}

-- "Origin is the cache, or a frame given by how many marks back it lies (0 is CMF), or the archive"; and (request 2.3) empty.
unfoldable pub origin_number : Origin → ℕ
origin_number (from in_archive) = 0
origin_number (from (in_frame back)) = 1
origin_number from_cache = 2
origin_number empty = 3

unfoldable pub marks_back : Origin → ℕ
marks_back (from in_archive) = 0
marks_back (from (in_frame back)) = back
marks_back from_cache = 0
marks_back empty = 0

-- 16 bytes that a part of 16 is copied over; any other, as a refused LINE's empty one, leaves them.
unfoldable pub copied : (part bytes : List ℕ) → List ℕ
copied part bytes = cond (eqb (length part) 16) part bytes
