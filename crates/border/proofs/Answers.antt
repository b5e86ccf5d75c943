-- What is copied of a part. Assumes nothing.
use mathlib.Core.Path.{◌≡◌, sym, ap}
use mathlib.Core.Logic.{◌≢◌}
use mathlib.Core.Bool.{Bool, cond}
use mathlib.Core.List.{List}
use Prim.Native.Nat.{ℕ}
use borrow.Author.Tests.{eq-eqb, ne_eqb}
use lib.ListN.{length}
use Rattle.border.specs.Answers.{copied}

-- A part of 16 bytes is copied whole.
pub copied-whole : (part bytes : List ℕ) → length part ≡ 16 → part ≡ copied part bytes
unfolding copied
copied-whole part bytes e = sym (ap (λ (b : Bool). cond b part bytes) (eq-eqb _ 16 e))

-- Any other one leaves the bytes.
pub copied_none : (part bytes : List ℕ) → length part ≢ 16 → bytes ≡ copied part bytes
unfolding copied
copied_none part bytes n = sym (ap (λ (b : Bool). cond b part bytes) (ne_eqb _ 16 n))
