-- `access::read` meets its contract.
use Rattle.rules.proofs.Refusals.{err-is, number-some}
use mathlib.Core.Path.{refl, sym, ◌∙◌}
use Rattle.cache.proofs.Hits.{found_below}
use Rattle.versions.specs.Newest.{origin_of}
use Rattle.versions.proofs.Naming.{named-empty, named-found}
use Rattle.storage.proofs.Admitting.{room-turn, room-flag, room-newest}
use Rattle.storage.proofs.Chains.{place-measured}
use Rattle.storage.proofs.Using.{read-refused, read-hits, read-misses}
use Rattle.access.proofs.read.Goals as goal

pub returns-in_err-admit_place : goal.returns-in_err-admit_place
unfolding origin_of
returns-in_err-admit_place c = rw (err-is _ _ c.from_residual.ensures.1) (read-refused _ _ _ _ _ c.measure-lengths.ensures c.in_err-admit_place.ensures.0 (number-some _))

pub recall-requires : goal.recall-requires
recall-requires c = search found_below

pub frame_of-frame-requires : goal.frame_of-frame-requires
frame_of-frame-requires c = search found_below

pub value_at-value-requires : goal.value_at-value-requires
value_at-value-requires c = (search found_below, (c.in_ok-admit_place.ensures.1 refl).bytes)

pub is_empty-requires : goal.is_empty-requires
is_empty-requires c =
    let g = place-measured c.measure-lengths.ensures (c.in_ok-admit_place.ensures.1 refl) in
    room-flag _ _ g.room _ g.line_below

pub live-live-requires : goal.live-live-requires
live-live-requires c = room-turn _ _ (c.in_ok-admit_place.ensures.1 refl).room

pub load-version-requires : goal.load-version-requires
load-version-requires c =
    let g = place-measured c.measure-lengths.ensures (c.in_ok-admit_place.ensures.1 refl) in
    (room-newest _ _ _ _ _ _ _ g.room _ _ c.live-live.ensures g.line_below, sym c.find.ensures ∙ c.in-None.is)

pub value_of-value-requires : goal.value_of-value-requires
value_of-value-requires c = (c.in_ok-admit_place.ensures.1 refl).bytes

pub is_empty-requires-in-None : goal.is_empty-requires-in-None
is_empty-requires-in-None c =
    let g = place-measured c.measure-lengths.ensures (c.in_ok-admit_place.ensures.1 refl) in
    room-flag _ _ g.room _ g.line_below

pub returns-then-is_empty : goal.returns-then-is_empty
returns-then-is_empty c =
    read-hits _ _ _ _ _ c.measure-lengths.ensures c.in_ok-admit_place.ensures.0 refl
    _ refl _ c.find.ensures _ c.in-Some.is _ refl _ c.value_at-value.ensures _ c.frame_of-frame.ensures _ (named-empty _ _ _ _ c.is_empty.ensures c.if-is_empty.true) _ c.recall.ensures

pub returns-then-is_empty-2 : goal.returns-then-is_empty-2
returns-then-is_empty-2 c =
    read-misses _ _ _ _ _ c.measure-lengths.ensures c.in_ok-admit_place.ensures.0 refl
    _ c.live-live.ensures _ c.find.ensures c.in-None.is _ c.load-version.ensures.found _ c.value_of-value.ensures _ (named-empty _ _ _ _ c.is_empty-in-None.ensures c.if-is_empty-2.true) _ c.load-version.ensures.held

pub returns-else-is_empty : goal.returns-else-is_empty
returns-else-is_empty c =
    read-hits _ _ _ _ _ c.measure-lengths.ensures c.in_ok-admit_place.ensures.0 refl
    _ refl _ c.find.ensures _ c.in-Some.is _ refl _ c.value_at-value.ensures _ c.frame_of-frame.ensures _ (named-found _ _ _ _ c.is_empty.ensures c.if-is_empty.false) _ c.recall.ensures

pub returns-else-is_empty-2 : goal.returns-else-is_empty-2
returns-else-is_empty-2 c =
    read-misses _ _ _ _ _ c.measure-lengths.ensures c.in_ok-admit_place.ensures.0 refl
    _ c.live-live.ensures _ c.find.ensures c.in-None.is _ c.load-version.ensures.found _ c.value_of-value.ensures _ (named-found _ _ _ _ c.is_empty-in-None.ensures c.if-is_empty-2.false) _ c.load-version.ensures.held
