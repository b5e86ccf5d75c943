-- A list rewritten element by element.
use Rattle.std.specs.Prelude.{ℕ, zero, suc, ◌+◌, List, get_or, set}

-- The first n elements replaced, each by what f gives of its place and itself; the rest as it was.
unfoldable pub rewrite : ℕ → (ℕ → ℕ → ℕ) → List ℕ → List ℕ
rewrite zero f xs = xs
rewrite (suc n) f xs = set (rewrite n f xs) n (f n (get_or xs n 0))

-- n neighbours from a place on replaced, each by what f gives of it; the rest as it was.
unfoldable pub rewrite_from : (at n : ℕ) → (ℕ → ℕ) → List ℕ → List ℕ
rewrite_from at zero f xs = xs
rewrite_from at (suc n) f xs = set (rewrite_from at n f xs) (at + n) (f (get_or xs (at + n) 0))
