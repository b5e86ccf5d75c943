-- Laws of a chain of refusals: what a test that failed or passed says of the whole. Assumes nothing.
use mathlib.Core.Path.{◌≡◌, refl}
use mathlib.Core.Bool.{Bool, true, false}
use Prim.Native.Nat.{ℕ, ◌+◌, ◌-◌, ◌*◌, ◌%◌, ◌^◌, ◌≤◌, ◌<◌}
use native.Mathlib.Omega.{arith}
use borrow.Author.Tests.{ltb-true, leb-true, eqb-true}
use lib.Dec.{ltb, leb, eqb}
use Rattle.rules.specs.Settings.{Settings, enough}
use Rattle.rules.specs.Call.{Act, Call}
use Rattle.rules.specs.Call.Call.{RESET, CHECK, ON, WRITE_BLOCK}
use Rattle.rules.specs.Refusal.{refusal, unless, Facts, is_width, state_refusal, place_refusal, write_refusal, marked_refusal}
use Rattle.rules.proofs.Tests.{both_true}

-- the test failed: the refusal is its number
pub fails : (b : Bool) (n rest : ℕ) → b ≡ false → unless b n rest ≡ n
unfolding unless
fails true n rest e = absurd (mathlib.Core.Bool.true≢false e)
fails false n rest e = refl

-- the test passed: the rest of the chain decides
pub passes : (b : Bool) (n rest r : ℕ) → b ≡ true → rest ≡ r → unless b n rest ≡ r
unfolding unless
passes true n rest r e h = h
passes false n rest r e h = absurd (mathlib.Core.Bool.false≢true e)

-- no refusal: the test passed, and the rest refuses nothing either
pub passed : (b : Bool) (n rest : ℕ) → 0 < n → unless b n rest ≡ 0 → (b ≡ true) × (rest ≡ 0)
unfolding unless
passed true n rest h e = (refl, e)
passed false n rest h e = absurd (omega arith)

pub state-passed : (g : Facts) (rest : ℕ) → state_refusal g rest ≡ 0 → rest ≡ 0
unfolding state_refusal
state-passed g rest e = (passed (enough g.settings g.lengths) 6 rest (omega arith) (passed g.fits 5 _ (omega arith) e).1).1

-- whoever passes 5 and 6 goes by the rest of its chain
pub state-lets-in : (g : Facts) (rest : ℕ) → state_refusal g 0 ≡ 0 → state_refusal g rest ≡ rest
unfolding state_refusal
state-lets-in g rest e =
    let p = passed g.fits 5 _ (omega arith) e in
    let q = passed (enough g.settings g.lengths) 6 0 (omega arith) p.1 in
    passes g.fits 5 _ rest p.0 (passes (enough g.settings g.lengths) 6 rest rest q.0 refl)

-- a number that is neither the test's nor the rest's
pub unless_not : (k : ℕ) (b : Bool) (n rest : ℕ) → (n ≡ k → ⊥) → (rest ≡ k → ⊥) → unless b n rest ≡ k → ⊥
unfolding unless
unless_not k true n rest p q = q
unless_not k false n rest p q = p

pub marked-passed : (live k : ℕ) → marked_refusal live k ≡ 0 → (0 < k) × (k ≤ live - 1)
unfolding marked_refusal
marked-passed live k e =
    let h = both_true (ltb 0 k) (leb k (live - 1)) (passed _ 11 0 (omega arith) e).0 in
    (ltb-true 0 k h.0, leb-true k (live - 1) h.1)

-- What 7, 8 and 9 leave of a width and an address,
pub record Placed (s : Settings) (w a : ℕ) : Type 0 where
  pub width : is_width w ≡ true
  pub aligned : a % w ≡ 0
  pub inside : a + w ≤ 16 * s.lines

pub place-passed : (s : Settings) (w a rest : ℕ) → place_refusal s w a rest ≡ 0 → Placed s w a × (rest ≡ 0)
unfolding place_refusal
place-passed s w a rest e =
    let p = passed (is_width w) 7 _ (omega arith) e in
    let q = passed (eqb (a % w) 0) 8 _ (omega arith) p.1 in
    let r = passed (leb (a + w) (16 * s.lines)) 9 rest (omega arith) q.1 in
    (record { width = p.0; aligned = eqb-true (a % w) 0 q.0; inside = leb-true (a + w) (16 * s.lines) r.0 }, r.1)

-- and 10 of a value.
pub write-passed : (s : Settings) (w a v rest : ℕ) → write_refusal s w a v rest ≡ 0 → Placed s w a × (v < 256 ^ w) × (rest ≡ 0)
unfolding write_refusal
write-passed s w a v rest e =
    let p = place-passed s w a _ e in
    let q = passed (ltb v (256 ^ w)) 10 rest (omega arith) p.1 in
    (p.0, ltb-true v (256 ^ w) q.0, q.1)

-- "every other call that takes a state gets 5 on the blank one", whose registers are not within their limits (`blank-unfit`).
unfit : (g : Facts) (rest : ℕ) → g.fits ≡ false → state_refusal g rest ≡ 5
unfolding state_refusal
unfit g rest e = fails g.fits 5 _ e

abbrev pub TakesState : Call → Type 0
TakesState (RESET s) = ⊥
TakesState CHECK = Unit {0}
TakesState (ON a) = Unit {0}
TakesState (WRITE_BLOCK items list) = Unit {0}

pub unfit-gets-5 : (g : Facts) (lacking : Act → Bool) (c : Call) → TakesState c → g.fits ≡ false → refusal g lacking c ≡ 5
unfolding refusal
unfit-gets-5 g lacking (RESET s) t e = absurd t
unfit-gets-5 g lacking CHECK t e = unfit g _ e
unfit-gets-5 g lacking (ON a) t e = unfit g _ e
unfit-gets-5 g lacking (WRITE_BLOCK items list) t e = unfit g _ e
