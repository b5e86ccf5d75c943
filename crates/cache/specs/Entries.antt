-- The entries of the cache: "The cache has 16 sets of two ways; a line's set is its number modulo 16." Entry 2 * set + way.
use Rattle.std.specs.Prelude.{ℕ, ◌+◌, ◌*◌, ◌/◌, ◌%◌, ◌<◌, ◌≡◌, Bool, true, false, cond, not, ◌&&◌, List, eqb, length, get_or, Option, Some, None}
use Rattle.rules.specs.Figure3.{set_of}
use Rattle.lists.specs.Lines.{line_at}
use Rattle.cache.specs.declared.Cache.{Cache}

-- The lengths of the cache's arrays. Code has them of every cache; a law on lists asks for them.
pub record Sized (c : Cache) : Type 0 where
  pub held : length c.held ≡ 32
  pub origins : length c.origins ≡ 32
  pub valid : length c.valid ≡ 32
  pub bytes : length c.bytes ≡ 512
  pub last : length c.last ≡ 16

-- A cache by its arrays, in the order of the functions' parameters.
abbrev pub cache_of : (held origins valid bytes last : List ℕ) → Cache
cache_of held origins valid bytes last = record { held = held; origins = origins; valid = valid; bytes = bytes; last = last }

-- What an entry has: its line, the frame of the line's most recent version, whether it is valid, its 16 bytes.
abbrev pub held_line : Cache → ℕ → ℕ
held_line c e = get_or c.held e 0

abbrev pub held_frame : Cache → ℕ → ℕ
held_frame c e = get_or c.origins e 0

unfoldable pub is_valid_in : (valid : List ℕ) → ℕ → Bool
is_valid_in valid e = eqb (get_or valid e 0) 1

abbrev pub is_valid : Cache → ℕ → Bool
is_valid c e = is_valid_in c.valid e

unfoldable pub bytes_in : (bytes : List ℕ) → ℕ → List ℕ
bytes_in bytes e = line_at bytes (16 * e)

abbrev pub held_bytes : Cache → ℕ → List ℕ
held_bytes c e = bytes_in c.bytes e

-- The entry of way 0 of a line's set. That of way 1 is the next.
abbrev pub home : ℕ → ℕ
home l = 2 * set_of l

-- Whether an entry is valid and has the line.
unfoldable pub is_at_in : (lines valid : List ℕ) → (entry line : ℕ) → Bool
is_at_in lines valid e l = is_valid_in valid e && eqb l (get_or lines e 0)

abbrev pub is_at : Cache → ℕ → ℕ → Bool
is_at c e l = is_at_in c.held c.valid e l

-- The entry that holds a line.
unfoldable pub hit_in : (lines valid : List ℕ) → ℕ → Option ℕ
hit_in lines valid l =
    cond (is_at_in lines valid (home l) l) (Some (home l)) (cond (is_at_in lines valid (home l + 1) l) (Some (home l + 1)) None)

abbrev pub found : Cache → ℕ → Option ℕ
found c l = hit_in c.held c.valid l

-- That entry where it has this frame.
unfoldable pub of_frame : (origins : List ℕ) → (frame : ℕ) → Option ℕ → Option ℕ
of_frame origins f (Some e) = cond (eqb (get_or origins e 0) f) (Some e) None
of_frame origins f None = None

-- What is asked of an entry that is handed on: a hit is one of the 32.
abbrev pub AsksFound : Option ℕ → Type 0
AsksFound r = (e : ℕ) → r ≡ Some e → e < 32

-- Whether there is one.
unfoldable pub is_hit : Option ℕ → Bool
is_hit (Some e) = true
is_hit None = false

-- The way of its set that a line takes which is in neither: "A miss, of a read or a write, takes way 0 if it is invalid, else way 1 if that is
-- invalid, else the less recently used way".
unfoldable pub free_way : (valid last : List ℕ) → (set : ℕ) → ℕ
free_way valid last s =
    cond (not (is_valid_in valid (2 * s))) 0 (cond (not (is_valid_in valid (2 * s + 1))) 1 (cond (eqb (get_or last s 0) 0) 1 0))

-- The way that a use of a line takes: its own at a hit, and else that one.
unfoldable pub way_in : (lines valid last : List ℕ) → ℕ → ℕ
way_in lines valid last l =
    cond (is_at_in lines valid (home l) l) 0 (cond (is_at_in lines valid (home l + 1) l) 1 (free_way valid last (set_of l)))

-- The same by the entry that was found for the line.
unfoldable pub way_from : (valid last : List ℕ) → (line : ℕ) → Option ℕ → ℕ
way_from valid last l (Some e) = e % 2
way_from valid last l None = free_way valid last (set_of l)

abbrev pub way_taken : Cache → ℕ → ℕ
way_taken c l = way_in c.held c.valid c.last l

-- and its entry.
abbrev pub entry_taken : Cache → ℕ → ℕ
entry_taken c l = home l + way_taken c l

-- The entry in which `found` finds a line.
pub record FoundAt (c : Cache) (l e : ℕ) : Type 0 where
  pub valid : is_valid c e ≡ true
  pub line : held_line c e ≡ l
  pub set : e / 2 ≡ set_of l
  pub below : e < 32
  pub taken : e ≡ entry_taken c l

-- A valid entry with this line, frame and bytes.
pub record Has (c : Cache) (e line frame : ℕ) (bytes : List ℕ) : Type 0 where
  pub valid : is_valid c e ≡ true
  pub line_is : held_line c e ≡ line
  pub frame_is : held_frame c e ≡ frame
  pub bytes_are : held_bytes c e ≡ bytes

-- An entry that two caches have alike.
pub record SameAt (e : ℕ) (a b : Cache) : Type 0 where
  pub valid : is_valid a e ≡ is_valid b e
  pub line : held_line a e ≡ held_line b e
  pub frame : held_frame a e ≡ held_frame b e
  pub bytes : held_bytes a e ≡ held_bytes b e

-- What is true of every valid entry's line, frame and bytes.
abbrev pub All : (ℕ → ℕ → List ℕ → Type 0) → Cache → Type 0
All R c = (e : ℕ) → is_valid c e ≡ true → R (held_line c e) (held_frame c e) (held_bytes c e)
