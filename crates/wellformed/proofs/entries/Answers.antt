-- `wellformed::entries` meets its contract.
use Rattle.std.proofs.Common.{rules, refl, arith}
use Rattle.std.proofs.lemmas.Iterator.{cases_from_all, YieldsList-from_range}
use Rattle.wellformed.specs.Parts.{SetWell}
use Rattle.wellformed.proofs.Deciding.{decided-as, told-yes, told-no, all-told}
use Rattle.wellformed.proofs.Sets.{well-set, sets_end}
use Rattle.wellformed.proofs.entries.Goals as goal

pub returns : goal.returns
returns c =
    let Well = SetWell c.args.lines c.args.cache in
    let all = cases_from_all _ _ _ Well (λ set. Well set → ⊥) c.all.ensures.ran (YieldsList-from_range 0 16 16 refl refl) (λ x q k. search (rules, told-yes)) (λ x q k. search (rules, told-no)) in
    decided-as _
    (λ h. (sets_end _ _ 16 (record { held = search rules; origins = search rules; valid = search rules; bytes = search rules; last = search rules }) h (omega arith)).only refl)
    (λ well set b. well-set _ _ well set) (all-told 16 Well _ all)
