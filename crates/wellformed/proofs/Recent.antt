-- The tests of the cache's entries against the most recent versions in memory. Assumes nothing.
use mathlib.Core.Path.{◌≡◌, sym, subst}
use mathlib.Core.Bool.{Bool, true, false, not}
use mathlib.Core.List.{List}
use Prim.Native.Nat.{ℕ, ◌≤◌}
use native.Mathlib.Omega.{arith}
use borrow.Author.Tests.{eqb-true, eq-eqb}
use lib.ListN.{get_or}
use Rattle.cache.specs.declared.Cache.{Cache}
use Rattle.cache.specs.Entries.{Sized, All, held_line, held_frame, is_valid, held_bytes, is_valid_in}
use Rattle.cache.proofs.Hits.{valid-below}
use Rattle.written.specs.Bits.{Written}
use Rattle.wellformed.specs.Decision.{Decides}
use Rattle.wellformed.specs.Parts.{RecentIn}
use Rattle.wellformed.proofs.Deciding.{says-yes, passes, part-fails, AllBelow}

module _ (w : Written) (pages live : ℕ) (archive pool table : List ℕ) where
  abbrev Recent : (line frame : ℕ) → List ℕ → Type 0
  Recent = RecentIn w pages live archive pool table

  -- An entry of the cache, if it is valid; those past the 32nd are not. (`Sized` tells which cache is meant.)
  module _ (c : Cache) where
    abbrev pub IfValid : ℕ → Type 0
    IfValid e = is_valid c e ≡ true → Recent (held_line c e) (held_frame c e) (held_bytes c e)

    pub not_valid : Sized c → (e : ℕ) → (get_or c.valid e 0 ≡ 1 → ⊥) → IfValid e
    unfolding is_valid_in
    not_valid s e n v = absurd (n (eqb-true _ 1 v))

    module _ (s : Sized c) (e : ℕ) (bytes : List ℕ) (r : Bool) (q : bytes ≡ held_bytes c e) (d : Decides r (Recent (held_line c e) (held_frame c e) bytes)) where
      pub entry-fails : get_or c.valid e 0 ≡ 1 → not r ≡ true → Decides false (All Recent c)
      unfolding is_valid_in
      entry-fails v = part-fails r (λ h. subst (Recent (held_line c e) (held_frame c e)) (sym q) (h e (eq-eqb (get_or c.valid e 0) 1 v))) d

      pub entry-passes : not r ≡ false → IfValid e
      entry-passes f v = subst (Recent (held_line c e) (held_frame c e)) q (passes r d f)

    pub entries-end : (n : ℕ) → Sized c → AllBelow n IfValid → 32 ≤ n → Decides true (All Recent c)
    entries-end n s h b = says-yes (λ e v. h e (omega (arith, b, valid-below c e s v)) v)
