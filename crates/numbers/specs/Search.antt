-- A search from the top down.
use Rattle.std.specs.Prelude.{ℕ, zero, suc, Bool, cond, Option, Some, None}

-- The greatest number below n that passes the test.
unfoldable pub greatest : ℕ → (ℕ → Bool) → Option ℕ
greatest zero f = None
greatest (suc n) f = cond (f n) (Some n) (greatest n f)
