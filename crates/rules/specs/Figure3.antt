-- Figure 3's cache with document 01's choices: "The cache has 16 sets of two ways; a line's set is its number modulo 16. It is
-- write-through", so an entry's Data and MRV fields are always those of the line's most recent version, and what is left to say is
-- which lines it holds. Figure 3's test "Cache[e].MRV > dst" is document 01's "most recent version lay in a dropped frame".
use Rattle.std.specs.Prelude.{ℕ, ◌%◌, ◌<◌, ◌≡◌, Bool, true, false, cond, ◌||◌, eqb}
use Rattle.std.proofs.Math.Option.{Option, none, some}
use Rattle.rules.specs.Settings.{Settings}
use Rattle.rules.specs.Line.{line_of}
use Rattle.rules.specs.Seen.{Seen, dropped}
use Rattle.rules.specs.Call.{Act}
use Rattle.rules.specs.Call.Change.{WRITE, MARK, ROLLBACK, ADVANCE}
use Rattle.rules.specs.Call.Act.{READ, LOOK, CHANGE}

pub data Way : Type 0 where
  way0 way1 : Way

-- One set: the line in each way, none where the way is invalid, and the way used last.
pub record Ways : Type 0 where
  pub first : Option ℕ
  pub second : Option ℕ
  pub last : Way

-- The sets by their number.
abbrev pub Cache : Type 0
Cache = ℕ → Ways

abbrev pub set_of : ℕ → ℕ
set_of line = line % 16

-- A cache that uses and rollbacks leave: each line in its own set, below L, and in one way only.
pub record WellCache (s : Settings) (c : Cache) : Type 0 where
  pub first : (set l : ℕ) → (c set).first ≡ some l → (set_of l ≡ set) × (l < s.lines)
  pub second : (set l : ℕ) → (c set).second ≡ some l → (set_of l ≡ set) × (l < s.lines)
  pub once : (set l : ℕ) → (c set).first ≡ some l → (c set).second ≡ some l → ⊥

-- The cache after RESET: "cache empty".
unfoldable pub empty_cache : Cache
empty_cache set = record { first = none; second = none; last = way0 }

unfoldable pub is_in : ℕ → Option ℕ → Bool
is_in l none = false
is_in l (some m) = eqb l m

unfoldable pub is_free : Option ℕ → Bool
is_free none = true
is_free (some m) = false

-- Whether the cache holds a line.
unfoldable pub holds : Cache → ℕ → Bool
holds c l = is_in l (c (set_of l)).first || is_in l (c (set_of l)).second

unfoldable pub other_way : Way → Way
other_way way0 = way1
other_way way1 = way0

-- The way that a use of a line takes: its own at a hit; "A miss, of a read or a write, takes way 0 if it is invalid, else way
-- 1 if that is invalid, else the less recently used way".
unfoldable pub way_for : ℕ → Ways → Way
way_for l w =
    cond (is_in l w.first) way0
    (cond (is_in l w.second) way1
    (cond (is_free w.first) way0
    (cond (is_free w.second) way1
    (other_way w.last))))

-- A set with a line in a way: "the way taken becomes most recently used", "A hit moves its way to most recently used".
unfoldable pub placed : ℕ → Way → Ways → Ways
placed l way0 w = record { first = some l; second = w.second; last = way0 }
placed l way1 w = record { first = w.first; second = some l; last = way1 }

-- A use of a line, by a read or a write, hit or miss.
unfoldable pub use_line : ℕ → Cache → Cache
use_line l c set = cond (eqb (set_of l) set) (placed l (way_for l (c set)) (c set)) (c set)

unfoldable pub unless_gone : (ℕ → Bool) → Option ℕ → Option ℕ
unless_gone gone none = none
unless_gone gone (some l) = cond (gone l) none (some l)

-- The entries of some lines made invalid; the order of use stays.
unfoldable pub forget : (ℕ → Bool) → Cache → Cache
forget gone c set =
    record { first = unless_gone gone (c set).first; second = unless_gone gone (c set).second; last = (c set).last }

-- The cache after an accepted act. "Rollback makes an entry invalid exactly if its line's most recent version lay in a dropped
-- frame. Lines collected by ADVANCE keep their entries and count as archive. Refused calls and MARK do not touch the cache."
-- LINE "changes nothing, the cache included".
unfoldable pub cache_step : Seen → Act → Cache → Cache
cache_step v (READ w a) c = use_line (line_of a) c
cache_step v (LOOK q) c = c
cache_step v (CHANGE (WRITE w a x)) c = use_line (line_of a) c
cache_step v (CHANGE MARK) c = c
cache_step v (CHANGE (ROLLBACK k)) c = forget (λ l. dropped k (v.origin l)) c
cache_step v (CHANGE (ADVANCE k)) c = c
