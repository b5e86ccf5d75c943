-- Deciding something by one test, and by going through the numbers below a bound. Assumes nothing.
use mathlib.Core.Path.{◌≡◌, refl, sym, ◌∙◌, subst}
use Rattle.std.specs.List.{range_with_len, AllWithin, HoldsAt}
use Rattle.std.proofs.Common.{zero-add}
use Rattle.std.proofs.lemmas.List.FromFn.{length-range_with_len, get_or-range_with_len}
use lib.ListN.{length}
use mathlib.Core.Bool.{Bool, true, false, not, false≢true}
use Prim.Native.Nat.{ℕ, ◌+◌, ◌<◌}
use native.Mathlib.Decide.{ℕ_discrete}
use native.Mathlib.Omega.{arith}
use Rattle.std.specs.Bool as std
use Rattle.wellformed.specs.Decision.{Decides}

pub says-yes : {P : Type 0} → P → Decides true P
says-yes p = record { only = λ e. p; always = λ q. refl }

pub says-no : {P : Type 0} → (P → ⊥) → Decides false P
says-no n = record { only = λ e. absurd (false≢true e); always = λ p. absurd (n p) }

-- What std's word for the same says.
pub decided : {P : Type 0} (r : Bool) → std.Decides r P → Decides r P
decided r h = record { only = h.0; always = h.1 }

-- The same decided in another form.
pub decided-as : {P Q : Type 0} (r : Bool) → (P → Q) → (Q → P) → Decides r P → Decides r Q
decided-as r there back d = record { only = λ e. there (d.only e); always = λ q. d.always (back q) }

-- What a test has shown, in the form in which `if !test(..)` has it.
pub fails : {P : Type 0} (r : Bool) → Decides r P → not r ≡ true → P → ⊥
fails true d e p = false≢true e
fails false d e p = false≢true (d.always p)

pub passes : {P : Type 0} (r : Bool) → Decides r P → not r ≡ false → P
passes true d e = d.only refl
passes false d e = absurd (false≢true (sym e))

-- A part that fails settles the whole.
pub part-fails : {P Q : Type 0} (r : Bool) → (Q → P) → Decides r P → not r ≡ true → Decides false Q
part-fails r part d e = says-no (λ q. fails r d e (part q))

-- True of every number below a bound: one more at each turn of a loop.
abbrev pub AllBelow : ℕ → (ℕ → Type 0) → Type 0
AllBelow n P = (k : ℕ) → k < n → P k

pub all-next : (P : ℕ → Type 0) (n : ℕ) → AllBelow n P → P n → AllBelow (n + 1) P
all-next P n h p k b = elim (ℕ_discrete k n) [ yes e ↦ subst P (sym e) p | no d ↦ h k (omega arith) ]

-- What one answer tells, yes and no,
pub told-yes : {P : Type 0} → Decides true P → P
told-yes d = d.only refl

pub told-no : {P : Type 0} → Decides false P → P → ⊥
told-no d p = false≢true (d.always p)

-- and what `all` answers over a range tells, where the closure decides P of each number.
abbrev pub Asked : ℕ → (ℕ → Type 0) → Bool → Type 0
Asked n P r =
    std.MatchBool r (AllWithin P (range_with_len 0 n) 0 (length (range_with_len 0 n)))
    ((k : ℕ) × (k < length (range_with_len 0 n)) × HoldsAt (λ x. P x → ⊥) (range_with_len 0 n) k)

pub all-told : (n : ℕ) (P : ℕ → Type 0) (r : Bool) → Asked n P r → Decides r (AllBelow n P)
all-told n P true h =
    says-yes (λ k b. subst P (get_or-range_with_len 0 n k 0 b ∙ zero-add k) (h k 0 (omega arith) (omega (arith, length-range_with_len 0 n))))
all-told n P false (k, b, h) =
    let c : k < n = omega (arith, length-range_with_len 0 n) in
    says-no (λ all. h 0 (subst P (sym (get_or-range_with_len 0 n k 0 c ∙ zero-add k)) (all k c)))
