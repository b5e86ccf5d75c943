-- The refusals of the code, by the numbers that the documents give them.
use Rattle.std.specs.Prelude.{ℕ, Result, Ok, Err}
use Rattle.rules.specs.declared.Refusal.{Refusal}
use Rattle.rules.specs.declared.Refusal.TheVariants.{Settings, State, Memory, Width, Alignment, Place, Value, Frames, Full, Pages, Answers}

abbrev pub number : Refusal → ℕ
number Settings = 4
number State = 5
number Memory = 6
number Width = 7
number Alignment = 8
number Place = 9
number Value = 10
number Frames = 11
number Full = 12
number Pages = 13
number Answers = 14

-- The refusal of what was called, or 0 if it was done.
abbrev pub refusal_in : {A : Type 0} → Result A Refusal → ℕ
refusal_in (Ok done) = 0
refusal_in (Err refusal) = number refusal
