-- `wellformed::archive` meets its contract.
use Rattle.std.proofs.Common.{rules, refl, arith}
use Rattle.std.proofs.lemmas.Iterator.{cases_from_all, YieldsList-from_range}
use Rattle.wellformed.specs.Parts.{CollectedOrZero}
use Rattle.wellformed.proofs.Deciding.{told-yes, told-no, all-told}
use Rattle.wellformed.proofs.archive.Goals as goal

pub returns : goal.returns
returns c =
    let Well = CollectedOrZero c.args.pages c.args.archive.now c.args.owners.now in
    let all = cases_from_all _ _ _ Well (λ line. Well line → ⊥) c.all.ensures.ran (YieldsList-from_range 0 c.args.lines c.args.lines refl (omega arith)) (λ x q k. search (rules, told-yes)) (λ x q k. search (rules, told-no)) in
    all-told c.args.lines Well _ all
