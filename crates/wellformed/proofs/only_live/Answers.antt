-- `wellformed::only_live` meets its contract.
use Rattle.std.proofs.Common.{◌/◌, ℕ, rules, refl, arith}
use Rattle.std.proofs.lemmas.Iterator.{cases_from_all, YieldsList-from_range}
use Rattle.written.specs.Bits.{Written, written_at}
use Rattle.wellformed.proofs.Deciding.{decided-as, all-told}
use Rattle.wellformed.proofs.Groups.{Still, live-still, live_end, still-yes, still-no}
use Rattle.wellformed.proofs.only_live.Goals as goal

pub returns : goal.returns
returns c =
    let w : Written = written_at c.args.shape c.args.groups.now c.args.history.now in
    let n : ℕ = c.args.shape.lines / 8 in
    let all = cases_from_all _ _ _ (Still w c.args.live) (λ block. Still w c.args.live block → ⊥) c.all.ensures.ran (YieldsList-from_range 0 n n refl (omega arith)) (λ x q k. search (rules, still-yes)) (λ x q k. search (rules, still-no)) in
    decided-as _ (λ h. (live_end _ _ n c.requires h (omega arith)).only refl) (live-still w c.args.live) (all-told n (Still w c.args.live) _ all)
