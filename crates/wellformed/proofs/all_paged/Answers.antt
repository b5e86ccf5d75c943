-- `wellformed::all_paged` meets its contract.
use Rattle.std.proofs.Common.{ℕ, rules, refl, arith}
use Rattle.std.proofs.lemmas.Iterator.{cases_from_all, YieldsList-from_range}
use Rattle.written.specs.Bits.{Written, written_at}
use Rattle.pages.specs.Table.{entries_of}
use Rattle.wellformed.proofs.Deciding.{decided-as, told-yes, told-no, all-told}
use Rattle.wellformed.proofs.Rings.{EntryPaged, entries-paged, paged-entry}
use Rattle.wellformed.proofs.all_paged.Goals as goal

pub returns : goal.returns
returns c =
    let w : Written = written_at c.args.ring.shape c.args.groups.now c.args.history.now in
    let n : ℕ = entries_of w in
    let Paged = EntryPaged w c.args.ring.pages c.args.ring.first c.args.ring.used c.args.table.now c.args.owners.now in
    let all = cases_from_all _ _ _ Paged (λ entry. Paged entry → ⊥) c.all.ensures.ran (YieldsList-from_range 0 n n refl (omega arith)) (λ x q k. search (rules, told-yes)) (λ x q k. search (rules, told-no)) in
    decided-as _ (entries-paged _ _ _ _ _ _) (paged-entry _ _ _ _ _ _ c.requires.0) (all-told n Paged _ all)
