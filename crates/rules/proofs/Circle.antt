-- Places round a circle. Assumes nothing.
use mathlib.Core.Path.{◌≡◌, ◌∙◌, ap}
use mathlib.Core.Logic.{◌⊎◌, inl, inr, ⊎_elim}
use Prim.Native.Nat.{ℕ, ◌+◌, ◌-◌, ◌%◌, ◌≤◌, ◌<◌}
use native.Mathlib.Nat.{mod-eq_of_lt, mod-eq-sub-mod, add-mod_right}
use native.Mathlib.Decide.{dec_lt}
use native.Mathlib.Omega.{arith}

-- a sum of two places goes round at most once
pub wrap : (n x : ℕ) → x < n + n → ((x < n) × (x % n ≡ x)) ⊎ ((n ≤ x) × (x % n + n ≡ x))
wrap n x h = elim (dec_lt x n) [ yes below ↦ inl (below, mod-eq_of_lt below) | no above ↦ inr (omega arith, round (omega arith)) ]
  where
    round : n ≤ x → x % n + n ≡ x
    round a = omega (arith, mod-eq-sub-mod a, mod-eq_of_lt {n = x - n} {m = n} (omega arith))

-- i places on from omf is cmf, perhaps round the circle
abbrev pub Reaches : (n omf i cmf : ℕ) → Type 0
Reaches n omf i cmf = (omf + i ≡ cmf) ⊎ (omf + i ≡ cmf + n)

module _ (n : ℕ) where
  pub index-reaches : (cmf omf : ℕ) → cmf < n → omf < n → Reaches n omf ((cmf + n - omf) % n) cmf
  index-reaches cmf omf a b =
      ⊎_elim (λ w. inr (omega (arith, w.0, w.1))) (λ w. inl (omega (arith, w.0, w.1))) (wrap n (cmf + n - omf) (omega arith))

  pub reaches-index : (cmf omf i : ℕ) → cmf < n → omf < n → i < n → Reaches n omf i cmf → (cmf + n - omf) % n ≡ i
  reaches-index cmf omf i a b h (inl e) =
      ap (λ (x : ℕ). x % n) (omega arith) ∙ (add-mod_right i n ∙ mod-eq_of_lt h)
  reaches-index cmf omf i a b h (inr e) = ap (λ (x : ℕ). x % n) (omega arith) ∙ mod-eq_of_lt h
