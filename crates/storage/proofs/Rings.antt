-- The ring that the calls see, which on well-formed storage is the one that the registers have. Assumes nothing.
use mathlib.Core.Path.{◌≡◌, ap, subst}
use mathlib.Core.Bool.{Bool, cond}
use Prim.Native.Nat.{ℕ, ◌≤◌, ◌<◌, min}
use native.Mathlib.Decide.{dec_lt}
use native.Mathlib.Omega.{arith}
use borrow.Author.Tests.{lt-ltb, le-ltb}
use Rattle.written.specs.declared.Shape.{Shape}
use Rattle.pages.specs.declared.Ring.{Ring}
use Rattle.pages.specs.Ring.{Leading, Leads, Splits, index_at}
use Rattle.pages.proofs.Halving.{leads-splits}
use Rattle.storage.specs.Storage.{shape_at, Storage, start_in, ring_at, WellStore}
use Rattle.storage.specs.declared.Registers.{Registers}
use Rattle.storage.specs.Steps.{PagesBelow, FirstPages}

pub start-same : (first pages : ℕ) → first < pages → start_in first pages ≡ first
unfolding start_in
start-same first pages b = ap (λ (t : Bool). cond t first 0) (lt-ltb first pages b)

pub start_none : (first pages : ℕ) → pages ≤ first → start_in first pages ≡ 0
unfolding start_in
start_none first pages b = ap (λ (t : Bool). cond t first 0) (le-ltb first pages b)

pub start-below : (first pages : ℕ) → 0 < pages → start_in first pages < pages
start-below first pages some = go (dec_lt first pages)
  where
    go : Dec (first < pages) → start_in first pages < pages
    go (yes b) = omega (arith, start-same first pages b)
    go (no b) = omega (arith, start_none first pages (omega arith))

pub used-same : (used pages : ℕ) → used ≤ pages → min used pages ≡ used
used-same used pages b = omega arith

-- in the form in which the code has its parts
pub ring-told : (r : Registers) (shape : Shape) (first used : ℕ) → shape ≡ shape_at r → first ≡ start_in r.first r.pages → used ≡ min r.used r.pages
    → ◌≡◌ {A = Ring} (record { shape = shape; pages = r.pages; first = first; used = used }) (ring_at r)
ring-told r shape first used s f u = λ i. record { shape = s i; pages = r.pages; first = f i; used = u i }

-- How many pages come first, by the registers themselves.
pub ring-found : (x : Storage) → WellStore x → (limit n : ℕ) → PagesBelow x.state.registers x.memory.owners limit n
    → Leading x.state.registers.used (index_at x.state.registers.frames x.state.registers.omf x.state.registers.pages x.state.registers.first x.memory.owners) limit n
ring-found x q limit n h =
    subst (λ (f : ℕ). Leading x.state.registers.used (index_at x.state.registers.frames x.state.registers.omf x.state.registers.pages f x.memory.owners) limit n)
    (start-same x.state.registers.first x.state.registers.pages q.pages.first_below)
    (subst (λ (u : ℕ). Leading u (index_at x.state.registers.frames x.state.registers.omf x.state.registers.pages (start_in x.state.registers.first x.state.registers.pages) x.memory.owners) limit n)
    (used-same x.state.registers.used x.state.registers.pages q.pages.used_few) h)

-- The pages of the k oldest frames, by the registers themselves.
pub ring-first : (x : Storage) → WellStore x → (k n : ℕ) → FirstPages x.state.registers x.memory.owners k n
    → Splits x.state.registers.used (index_at x.state.registers.frames x.state.registers.omf x.state.registers.pages x.state.registers.first x.memory.owners) k n
unfolding index_at
ring-first x q k n h =
    leads-splits _ _ k n
    (subst (λ (f : ℕ). Leads x.state.registers.used (index_at x.state.registers.frames x.state.registers.omf x.state.registers.pages f x.memory.owners) k n)
    (start-same x.state.registers.first x.state.registers.pages q.pages.first_below)
    (subst (λ (u : ℕ). Leads u (index_at x.state.registers.frames x.state.registers.omf x.state.registers.pages (start_in x.state.registers.first x.state.registers.pages) x.memory.owners) k n)
    (used-same x.state.registers.used x.state.registers.pages q.pages.used_few) h))
    q.pages.rising
