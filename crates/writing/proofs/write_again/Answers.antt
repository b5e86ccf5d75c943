-- `writing::write_again` meets its contract.
use Rattle.storage.proofs.Editing.{edit-told}
use native.Mathlib.Omega.{arith}
use Rattle.writing.proofs.write_again.Goals as goal

pub page_at-named-requires : goal.page_at-named-requires
page_at-named-requires c = rw c.shape-shape.ensures c.requires.named

pub renew-requires : goal.renew-requires
renew-requires c = (rw c.shape-shape.ensures c.requires.written, omega arith)

pub recall-requires : goal.recall-requires
recall-requires c = c.requires.entry_few

pub returns : goal.returns
returns c =
    let t = edit-told c.args.registers _ _ _ _ _ c.args.table.now _ _ c.shape-shape.ensures _ c.page_at-named.ensures _ c.min-page.ensures _ _ c.edit_page_line.ensures c.renew.ensures in
    record { bytes = c.edit_at.ensures; last = c.recall.ensures; pool = t.0; groups = t.1 }
