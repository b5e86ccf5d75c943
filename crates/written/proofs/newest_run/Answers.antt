-- `written::newest_run` meets its contract.
use native.Mathlib.Omega.{arith}
use mathlib.Core.Path.{◌∙◌}
use Rattle.written.proofs.Runs.{run-told-at, run-told-none, run-told-within}
use Rattle.written.proofs.newest_run.Goals as goal

pub returns-in_err-q : goal.returns-in_err-q
returns-in_err-q c =
    c.from_residual.ensures
    ∙ run-told-none _ _ _ _ _ _ _ _ c.min.ensures c.saturating_sub.ensures c.min-top.ensures c.newest_bit.ensures c.in_err-q.was

pub overflow_add-result : goal.overflow_add-result
overflow_add-result c =
    let h = run-told-within _ _ _ _ _ _ _ _ _ c.min.ensures c.saturating_sub.ensures c.min-top.ensures c.newest_bit.ensures c.in_ok-q.was in
    omega arith

pub overflow_sub-result : goal.overflow_sub-result
overflow_sub-result c = (run-told-within _ _ _ _ _ _ _ _ _ c.min.ensures c.saturating_sub.ensures c.min-top.ensures c.newest_bit.ensures c.in_ok-q.was).0

pub returns : goal.returns
returns c =
    run-told-at _ _ _ _ _ _ _ _ _ c.min.ensures c.saturating_sub.ensures c.min-top.ensures c.newest_bit.ensures c.in_ok-q.was
