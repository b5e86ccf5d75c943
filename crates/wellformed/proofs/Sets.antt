-- The tests of the cache's entries and sets. Assumes nothing.
use mathlib.Core.Path.{◌≡◌, refl, sym, ◌∙◌, ap}
use mathlib.Core.Bool.{Bool, true, false, cond}
use mathlib.Core.Option.{Option, none, some}
use Prim.Native.Nat.{ℕ, ◌+◌, ◌*◌, ◌%◌, ◌≤◌, ◌<◌}
use native.Mathlib.Omega.{arith}
use borrow.Author.Tests.{eqb-true, eq-eqb}
use lib.ListN.{get_or}
use Rattle.rules.specs.Sizing.{settings_of}
use Rattle.rules.specs.Figure3.{WellCache}
use Rattle.cache.specs.declared.Cache.{Cache}
use Rattle.cache.specs.Entries.{Sized, held_line, is_valid, is_valid_in}
use Rattle.cache.specs.Shown.{line_in, shown}
use Rattle.cache.proofs.Hits.{valid-below}
use Rattle.wellformed.specs.Decision.{Decides}
use Rattle.wellformed.specs.Parts.{SetWell}
use Rattle.wellformed.proofs.Deciding.{says-yes, AllBelow}

-- A set: its two entries, and not both with one line.
module _ (lines : ℕ) (c : Cache) (set : ℕ) where
  abbrev Home : ℕ → Type 0
  Home e = get_or c.valid e 0 ≡ 1 → (held_line c e % 16 ≡ set) × (held_line c e < lines)

-- An entry as a way of Figure 3's cache.
module _ (c : Cache) (e : ℕ) where
  in-valid : get_or c.valid e 0 ≡ 1 → line_in c e ≡ some (held_line c e)
  unfolding line_in is_valid_in
  in-valid v = ap (λ (b : Bool). cond b (some (held_line c e)) none) (eq-eqb (get_or c.valid e 0) 1 v)

  record Within (l : ℕ) : Type 0 where
    pub valid : get_or c.valid e 0 ≡ 1
    pub line : held_line c e ≡ l
    pub below : Sized c → e < 32

  valid-in : (l : ℕ) → line_in c e ≡ some l → Within l
  unfolding line_in is_valid_in
  valid-in l h = go (is_valid c e) refl h
    where
      go : (b : Bool) → is_valid c e ≡ b → cond b (some (held_line c e)) none ≡ some l → Within l
      go true p h = record { valid = eqb-true _ 1 p; line = cc; below = λ s. valid-below c e s p }
      go false p h = let z : ◌≡◌ {A = ℕ} 0 1 = cc in absurd (omega arith)

-- All sets; those past the 16th have no valid entry.
module _ (lines : ℕ) (c : Cache) where
  pub well-set : WellCache (settings_of lines 0 0) (shown c) → (set : ℕ) → SetWell lines c set
  unfolding shown
  well-set well set =
      record {
        first = λ v. well.first set _ (in-valid c (2 * set) v);
        second = λ v. well.second set _ (in-valid c (2 * set + 1) v);
        once = λ v w e. well.once set _ (in-valid c (2 * set) v) (in-valid c (2 * set + 1) w ∙ ap {B = Option ℕ} some (sym e));
      }

  line-home : (set e l : ℕ) → Within c e l → Home lines c set e → (l % 16 ≡ set) × (l < lines)
  line-home set e l x h =
      let y = h x.valid in
      (ap (λ (z : ℕ). z % 16) (sym x.line) ∙ y.0, omega (arith, x.line, y.1))

  pub sets_end : (n : ℕ) → Sized c → AllBelow n (SetWell lines c) → 16 ≤ n → Decides true (WellCache (settings_of lines 0 0) (shown c))
  unfolding shown
  sets_end n s h b =
      says-yes
      record {
        first = λ set l e. let x = valid-in c (2 * set) l e in line-home set (2 * set) l x (h set (omega (arith, x.below s))).first;
        second = λ set l e. let x = valid-in c (2 * set + 1) l e in line-home set (2 * set + 1) l x (h set (omega (arith, x.below s))).second;
        once = λ set l e f.
            let x = valid-in c (2 * set) l e in
            let y = valid-in c (2 * set + 1) l f in
            (h set (omega (arith, x.below s))).once x.valid y.valid (x.line ∙ sym y.line);
      }
