-- `wellformed::tags_known` meets its contract.
use Rattle.std.proofs.Common.{◌∙◌, sym, subst, arith}
use Rattle.wellformed.proofs.Deciding.{all-next}
use Rattle.wellformed.proofs.Groups.{Known, group-read, none-known, tag-over}
use Rattle.wellformed.proofs.tags_known.Goals as goal
use Rattle.wellformed.proofs.tags_known.Goals.{else-is_some-via-then-is_some+else-tag-group, else-is_some-via-else-is_some}

pub returns-then-tag-group : goal.returns-then-tag-group
returns-then-tag-group c =
    let read = group-read _ c.args.tag c.args.groups.now _ c.requires c.loop-group-test.true in
    tag-over _ _ c.args.groups.now _ _ _ read.0 read.1 c.newest_bit.ensures (sym c.is_some.ensures ∙ c.if-is_some.true) (omega (arith, c.if-tag-group.true))

pub loop-group-preserved : goal.loop-group-preserved
loop-group-preserved c =
    let read = group-read _ c.args.tag c.args.groups.now _ c.requires c.loop-group-test.true in
    all-next _ _ c.loop-group.invariant
    (subst (Known c.args.tag) read.1
    (elim c.else-is_some.branch [
      | else-is_some-via-then-is_some+else-tag-group w ↦ λ q b s. w.if-tag-group.false
      | else-is_some-via-else-is_some w ↦ none-known _ _ _ c.newest_bit.ensures (sym c.is_some.ensures ∙ w.if-is_some.false)
    ]))
