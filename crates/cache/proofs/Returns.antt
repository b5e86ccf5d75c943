-- What each return of the cache's functions rests on, in the form in which the code has it. Assumes nothing.
use Rattle.std.specs.Prelude.{Option, Some, None}
use mathlib.Core.Path.{◌≡◌, refl, sym, ◌∙◌, ap, ap₂}
use mathlib.Core.Bool.{Bool, true, false, cond, not, ◌&&◌}
use mathlib.Core.List.{List}
use Prim.Native.Nat.{ℕ, ◌+◌, ◌*◌, ◌≤◌, ◌<◌}
use native.Mathlib.Omega.{arith}
use borrow.Author.Tests.{eq-eqb, not-false}
use lib.ListN.{length, get_or, set}
use Rattle.rules.specs.Line.{value_at, edit}
use Rattle.rules.specs.Figure3.{set_of}
use Rattle.cache.specs.declared.Cache.{Cache}
use Rattle.cache.specs.Entries.{home, way_taken, hit_in, bytes_in, is_at_in, is_valid_in, free_way, way_in, way_from}
use Rattle.lists.specs.Lines.{paste_line, AsksBytes}
use Rattle.lists.proofs.Values.{line-value, line-edit}
use Rattle.cache.specs.Steps.{placed_in}

module _ (lines valid : List ℕ) (e : ℕ) where
  pub at-line : (l : ℕ) (b : Bool) → b ≡ is_valid_in valid e → not b ≡ false → get_or lines e 0 ≡ l → true ≡ is_at_in lines valid e l
  unfolding is_at_in
  at-line l b d t h = sym (ap₂ (λ (y z : Bool). y && z) (sym d ∙ not-false b t) (eq-eqb l (get_or lines e 0) (sym h)))

module _ (lines valid : List ℕ) (l : ℕ) (b : Bool) (first : b ≡ is_at_in lines valid (home l) l) where
  pub found_first : b ≡ true → Some (home l) ≡ hit_in lines valid l
  unfolding hit_in
  found_first t = rw (sym first ∙ t)

  module _ (f : b ≡ false) (d : Bool) (second : d ≡ is_at_in lines valid (home l + 1) l) where
    pub found-second : d ≡ true → Some (home l + 1) ≡ hit_in lines valid l
    unfolding hit_in
    found-second t = rw (sym first ∙ f, sym second ∙ t)

    pub found_none : d ≡ false → None ≡ hit_in lines valid l
    unfolding hit_in
    found_none g = rw (sym first ∙ f, sym second ∙ g)

module _ (lines valid last : List ℕ) (l : ℕ) (b : Bool) (first : b ≡ is_at_in lines valid (home l) l) where
  pub taken-first : b ≡ true → 0 ≡ way_in lines valid last l
  unfolding way_in
  taken-first t = rw (sym first ∙ t)

  module _ (f : b ≡ false) (d : Bool) (second : d ≡ is_at_in lines valid (home l + 1) l) where
    pub taken-second : d ≡ true → 1 ≡ way_in lines valid last l
    unfolding way_in
    taken-second t = rw (sym first ∙ f, sym second ∙ t)

-- The way by the entry found is the way that a use takes.
way-found : (lines valid last : List ℕ) (l : ℕ) (r : Option ℕ) → r ≡ hit_in lines valid l → way_from valid last l r ≡ way_in lines valid last l
unfolding hit_in way_in way_from
way-found lines valid last l r e = ap (way_from valid last l) e ∙ go (is_at_in lines valid (home l) l) (is_at_in lines valid (home l + 1) l)
  where
    go : (a b : Bool) → way_from valid last l (cond a (Some (home l)) (cond b (Some (home l + 1)) None)) ≡ cond a 0 (cond b 1 (free_way valid last (set_of l)))
    go true b = omega arith
    go false true = omega arith
    go false false = refl

-- the bytes of an entry lie in the cache's
pub entry-room : (bytes : List ℕ) (entry : ℕ) → length bytes ≡ 512 → entry < 32 → 16 * entry + 16 ≤ length bytes
entry-room bytes entry long h = omega arith

-- a value read and written there
module _ (bytes : List ℕ) (entry w o : ℕ) (asks : (entry < 32) × (AsksBytes w o)) (long : length bytes ≡ 512) where
  pub entry_value : (r : ℕ) → r ≡ value_at w (16 * entry + o) bytes → r ≡ value_at w o (bytes_in bytes entry)
  unfolding bytes_in
  entry_value r e = e ∙ line-value w o (16 * entry) bytes asks.1 (entry-room bytes entry long asks.0)

  pub entry-edit : (v : ℕ) (after : List ℕ) → after ≡ edit w (16 * entry + o) v bytes → after ≡ paste_line bytes (16 * entry) (edit w o v (bytes_in bytes entry))
  unfolding bytes_in
  entry-edit v after e = e ∙ line-edit w o (16 * entry) bytes asks.1 v (entry-room bytes entry long asks.0)

-- the arrays after a use of a line, by the entry found for it
pub placed-done : (c : Cache) (line frame way : ℕ) (content lines frames valid bytes last : List ℕ) (r : Option ℕ) → r ≡ hit_in c.held c.valid line
    → (way ≡ way_from c.valid c.last line r) × (way < 2)
    → lines ≡ set c.held (home line + way) line → frames ≡ set c.origins (home line + way) frame → valid ≡ set c.valid (home line + way) 1
    → bytes ≡ paste_line c.bytes (16 * (home line + way)) content → last ≡ set c.last (set_of line) way
    → record { held = lines; origins = frames; valid = valid; bytes = bytes; last = last } ≡ placed_in c line frame content
unfolding placed_in
placed-done c line frame way content lines frames valid bytes last r h w el ef ev eb ea =
    let taken : way ≡ way_taken c line = w.0 ∙ way-found c.held c.valid c.last line r h in
    cc (taken, el, ef, ev, eb, ea)
