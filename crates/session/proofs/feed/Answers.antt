-- `session::feed` meets its contract.
use mathlib.Core.Path.{sym}
use lib.Seq.{length-take-le}
use Rattle.session.proofs.Feeding.{end_few, taken-full, taken-rest, taken-part}
use Rattle.session.proofs.Whole.{taken-line}
use Rattle.session.proofs.feed.Goals as goal

pub returns-then-out-lt-LONGEST-clause-taken : goal.returns-then-out-lt-LONGEST-clause-taken
returns-then-out-lt-LONGEST-clause-taken c = taken-full _ _ _ _ c.if-out-lt-LONGEST.true

pub returns-then-reader-eq0-clause-taken : goal.returns-then-reader-eq0-clause-taken
returns-then-reader-eq0-clause-taken c = search taken-rest

pub slice_bounds-keep-end : goal.slice_bounds-keep-end
slice_bounds-keep-end c = sym (length-take-le _ _ (end_few _ _ c.part_end-end.ensures))

pub returns-then-chunk-end-clause-taken : goal.returns-then-chunk-end-clause-taken
returns-then-chunk-end-clause-taken c = search taken-part

pub returns-clause-taken : goal.returns-clause-taken
returns-clause-taken c =
    search (
      taken-line,
      c.if-out-lt-LONGEST.false,
      c.part_end-end.ensures,
      c.if-chunk-end.false,
      c.keep-whole.ensures,
      c.ended-line.ensures,
      c.answer_lines-first.ensures.lines.0,
      c.answer_lines-first.ensures.lines.1,
      c.feed_rest-2.ensures.rested,
    )
