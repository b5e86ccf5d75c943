-- `session::ask` meets its contract.
use Rattle.std.proofs.lemmas.Result.{err_from_is_err_and}
use Rattle.session.proofs.Answering.{ask-down, ask-early, ask-record}
use Rattle.session.proofs.ask.Goals as goal

pub returns-in_err-entry : goal.returns-in_err-entry
returns-in_err-entry c =
    let p = err_from_is_err_and c.from_residual.result c.from_residual.ensures.1 in
    rw (p.1, p.2) (ask-down c.args.started c.args.line.now _ c.in_err-entry.ensures)

pub returns-then-is_early : goal.returns-then-is_early
returns-then-is_early c = ask-early c.args.started c.args.line.now c.in_ok-entry.entry c.in_ok-entry.ensures _ c.is_early.ensures c.if-is_early.true

pub returns : goal.returns
returns c = ask-record c.args.started c.args.line.now c.in_ok-entry.entry c.in_ok-entry.ensures _ c.is_early.ensures c.if-is_early.false
