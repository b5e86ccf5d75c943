-- `writing::write_newly` meets its contract.
use mathlib.Core.Path.{refl, sym}
use Rattle.storage.proofs.Admitting.{room-passed, room-turn}
use Rattle.storage.proofs.Storing.{write-page-asks, asks_write, write-full, write_done}
use Rattle.writing.proofs.write_newly.Goals as goal

pub live-live-requires : goal.live-live-requires
live-live-requires c = room-turn _ _ (room-passed _ _ c.requires.0)

pub page_for-choice-requires : goal.page_for-choice-requires
page_for-choice-requires c =
    write-page-asks _ _ _ _ _ _ c.requires.0 (sym c.requires.1) refl _ _ _ c.ring-ring.ensures

pub put_value-requires : goal.put_value-requires
put_value-requires c =
    (asks_write _ _ _ _ _ c.requires.0 (sym c.requires.1) refl _ c.ring-ring.ensures _ c.page_for-choice.ensures.0 _ _ c.live-live.ensures c.in-Some.is, c.requires.2)

pub returns-in-Some : goal.returns-in-Some
returns-in-Some c =
    write_done _ _ _ _ _ c.requires.0 (sym c.requires.1) refl _ c.ring-ring.ensures _ c.page_for-choice.ensures.0 _ c.in-Some.is _ c.live-live.ensures _ _ c.put_value.ensures _ c.page_for-choice.ensures.1

pub returns-in-None : goal.returns-in-None
returns-in-None c =
    write-full _ _ _ _ _ c.requires.0 (sym c.requires.1) refl _ c.ring-ring.ensures _ c.page_for-choice.ensures.0 c.in-None.is
