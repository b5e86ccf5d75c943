-- `frames::live` meets its contract.
use mathlib.Core.Path.{ap}
use Prim.Native.Nat.{ℕ, ◌+◌}
use Rattle.rules.specs.Registers.{live_between}
use Rattle.frames.specs.Circle.{index_of}
use Rattle.frames.proofs.Circle.{live_small}
use borrow.Author.Rules.{rules}
use Rattle.frames.proofs.live.Goals as goal

pub overflow_add-result : goal.overflow_add-result
overflow_add-result c = search (rules, live_small)

pub returns : goal.returns
unfolding live_between index_of
returns c = ap (λ (n : ℕ). n + 1) c.index.ensures
