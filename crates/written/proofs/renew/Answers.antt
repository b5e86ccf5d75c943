-- `written::renew` meets its contract.
use native.Mathlib.Omega.{arith}
use Rattle.written.proofs.Renewing.{renew-asks, renew-stays, renew-told}
use Rattle.written.proofs.renew.Goals as goal

pub returns-then-group-tag : goal.returns-then-group-tag
returns-then-group-tag c =
    renew-stays _ _ _ _ _ c.group_at-group.ensures (omega (arith, c.if-group-tag.true))

pub set-requires : goal.set-requires
set-requires c =
    renew-asks _ _ _ _ c.requires _ c.index-index.ensures

pub returns : goal.returns
returns c =
    renew-told _ _ _ _ _ c.group_at-group.ensures _ _ (λ z. omega (arith, c.if-group-tag.false, z)) c.index-index.ensures c.set.ensures
