use native.Mathlib.Omega.{arith}
use Rattle.written.proofs.Runs.{from_at, from-none, from-again}
use Rattle.written.proofs.search.Goals as goal

pub returns-in-Some : goal.returns-in-Some
returns-in-Some c = search from_at

pub returns-then-i-down : goal.returns-then-i-down
returns-then-i-down c = search from-none

pub loop-found-preserved : goal.loop-found-preserved
loop-found-preserved c = (omega arith, search from-again)
