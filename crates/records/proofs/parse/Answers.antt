-- `records::parse` meets its contract.
use mathlib.Core.Path.{sym, ◌∙◌}
use lib.Seq.{length-take-le}
use native.Mathlib.Omega.{arith}
use borrow.Author.Rules.{rules}
use Rattle.std.proofs.lemmas.Result.{err_from_is_err_and}
use Rattle.text.proofs.Fields.{up-to-length}
use Rattle.records.proofs.Recording.{refusal_is, gathered, parsed-long, parsed-bad, parsed-other, parsed-record}
use Rattle.records.proofs.parse.Goals as goal

pub returns-then-line-gt-LIMIT : goal.returns-then-line-gt-LIMIT
returns-then-line-gt-LIMIT c = parsed-long c.args.line.now (omega arith)

pub returns-in_err-count : goal.returns-in_err-count
returns-in_err-count c =
    let p = err_from_is_err_and c.from_residual.result c.from_residual.ensures.1 in
    let none = c.in_err-count.ensures in
    rw (p.1, p.2, refusal_is _ _ none.value)
    (parsed-bad c.args.line.now c.part_end-end.result c.if-line-gt-LIMIT.false c.part_end-end.ensures
    (gathered c.args.line.now c.part_end-end.result _ _ none.ok_part c.gather.ensures))

pub slice_bounds-gather-count : goal.slice_bounds-gather-count
slice_bounds-gather-count c = omega (arith, c.part_end-end.ensures, up-to-length 9 c.args.line.now)

pub slice_bounds-gather-start : goal.slice_bounds-gather-start
slice_bounds-gather-start c = omega (arith, c.part_end-end.ensures, up-to-length 9 c.args.line.now)

pub slice_bounds-word_in-end : goal.slice_bounds-word_in-end
slice_bounds-word_in-end c = sym (length-take-le _ _ (omega (arith, c.part_end-end.ensures, up-to-length 9 c.args.line.now)))

pub returns-in_err-word : goal.returns-in_err-word
returns-in_err-word c =
    let p = err_from_is_err_and c.from_residual-in_err-word.result c.from_residual-in_err-word.ensures.1 in
    let none = c.in_err-word.ensures in
    rw (p.1, p.2, refusal_is _ _ none.value)
    (parsed-other c.args.line.now c.part_end-end.result c.if-line-gt-LIMIT.false c.part_end-end.ensures c.in_ok-count.field-0 (search rules)
    (gathered c.args.line.now c.part_end-end.result _ _ c.in_ok-count.ensures.ok_part c.gather.ensures)
    (sym none.ok_part ∙ c.word_in.ensures))

pub returns : goal.returns
returns c =
    parsed-record c.args.line.now c.part_end-end.result c.if-line-gt-LIMIT.false c.part_end-end.ensures c.in_ok-count.field-0 (search rules)
    (gathered c.args.line.now c.part_end-end.result _ _ c.in_ok-count.ensures.ok_part c.gather.ensures) c.in_ok-word.word
    (sym c.in_ok-word.ensures.ok_part ∙ c.word_in.ensures)
