-- The tally of a session. Quotations are of document 01.
use Rattle.std.specs.Prelude.{ℕ, ◌+◌, cond, ltb, eqb}
use Rattle.tally.specs.declared.Tally.{Tally}

-- A tally is printed as a 64-bit number; it would stay at the last one.
abbrev pub most : ℕ
most = 18446744073709551615

-- One more, up to the last number.
unfoldable pub one_more : ℕ → ℕ
one_more n = cond (ltb n most) (n + 1) n

abbrev pub tally_of : (oks noes : ℕ) → Tally
tally_of oks noes = record { oks = oks; noes = noes }

-- "a tally of ok and no answers": the tally with one answer more, of refusal n or 0.
unfoldable pub tally_after : Tally → ℕ → Tally
tally_after t n = cond (eqb n 0) (tally_of (one_more t.oks) t.noes) (tally_of t.oks (one_more t.noes))
