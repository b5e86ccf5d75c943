-- `access::line_admitted` meets its contract.
use mathlib.Core.Path.{refl, sym}
use native.Mathlib.Omega.{arith}
use Rattle.storage.proofs.Admitting.{room-turn, room-lent}
use Rattle.storage.proofs.Chains.{line-room, line-spot, line-content}
use Rattle.storage.proofs.Using.{line-in-page, line-in-archive}
use Rattle.access.proofs.line_admitted.Goals as goal

pub live-live-requires : goal.live-live-requires
live-live-requires c = let g = line-room _ _ _ _ (sym c.requires) refl in room-turn _ _ g.room

pub overflow_sub-live : goal.overflow_sub-live
overflow_sub-live c = let g = line-room _ _ _ _ (sym c.requires) refl in omega (arith, g.room.live_some, c.live-live.ensures)

pub search-found-requires : goal.search-found-requires
search-found-requires c =
    let g = line-room _ _ _ _ (sym c.requires) refl in
    rw c.shape-shape.ensures
    (record { lent = room-lent _ _ _ _ _ _ _ g.room; line_below = g.line_below; index_below = omega (arith, g.room.live_some, g.room.live_most, c.live-live.ensures) })

pub locate-requires : goal.locate-requires
locate-requires c =
    let g = line-room _ _ _ _ (sym c.requires) refl in
    rw c.shape-shape.ensures (line-spot _ _ _ g _ c.live-live.ensures _ _ _ (rw c.shape-shape.ensures at c.search-found.ensures))

pub page_line-requires : goal.page_line-requires
page_line-requires c =
    let g = line-room _ _ _ _ (sym c.requires) refl in
    (line-content _ _ _ g _ _ _ (rw c.shape-shape.ensures at c.locate.ensures)).page _ c.in-Some.is

pub archive_line-requires : goal.archive_line-requires
archive_line-requires c =
    let g = line-room _ _ _ _ (sym c.requires) refl in
    (line-content _ _ _ g _ _ _ (rw c.shape-shape.ensures at c.locate.ensures)).archived

pub returns-in-Some : goal.returns-in-Some
returns-in-Some c =
    let is = c.shape-shape.ensures in
    λ _. line-in-page _ _ _ _ refl (sym c.requires) refl _ c.live-live.ensures _ (rw is at c.search-found.ensures) _ (rw is at c.locate.ensures) _ _ c.in-Some.is c.page_line.ensures

pub returns-in-None : goal.returns-in-None
returns-in-None c =
    let is = c.shape-shape.ensures in
    λ _. line-in-archive _ _ _ _ refl (sym c.requires) refl _ c.live-live.ensures _ (rw is at c.search-found.ensures) _ (rw is at c.locate.ensures) _ c.in-None.is c.archive_line.ensures
