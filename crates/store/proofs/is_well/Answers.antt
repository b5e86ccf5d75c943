-- `store::is_well` meets its contract.
use native.Mathlib.Omega.{arith}
use Rattle.wellformed.proofs.Deciding.{part-fails}
use Rattle.storage.proofs.Admitting.{room-passed, room-turn, room-pages}
use Rattle.storage.proofs.Checking.{room-bits, room-recent, bits-part, entries-part, well-decided}
use Rattle.store.proofs.is_well.Goals as goal

pub live-live-requires : goal.live-live-requires
live-live-requires c = room-turn _ _ (room-passed _ _ c.requires)

pub bits-requires : goal.bits-requires
bits-requires c =
    room-bits _ _ _ _ _ _ _ _ (room-passed _ _ c.requires) c.live-live.ensures

pub returns-then-not-bits : goal.returns-then-not-bits
returns-then-not-bits c = part-fails _ (bits-part _ _ c.live-live.ensures) c.bits.ensures c.if-not-bits.true-raw

pub ring-requires : goal.ring-requires
ring-requires c = room-pages _ _ _ _ _ _ _ (room-passed _ _ c.requires)

pub returns-then-not-ring : goal.returns-then-not-ring
returns-then-not-ring c = part-fails _ (λ q. q.pages) c.ring.ensures c.if-not-ring.true-raw

pub returns-then-not-entries : goal.returns-then-not-entries
returns-then-not-entries c = part-fails _ (entries-part _) c.entries.ensures c.if-not-entries.true-raw

pub archive-requires : goal.archive-requires
archive-requires c =
    let g = room-passed _ _ c.requires in (g.lines_to, g.lines_by, g.pages_to, g.archive_long, g.owners_long)

pub returns-then-not-archive : goal.returns-then-not-archive
returns-then-not-archive c = part-fails _ (λ q. q.archive_empty) c.archive.ensures c.if-not-archive.true-raw

pub overflow_mul-lines : goal.overflow_mul-lines
overflow_mul-lines c = omega (arith, room-passed _ _ c.requires)

pub bytes-requires : goal.bytes-requires
bytes-requires c = (room-passed _ _ c.requires).archive_long

pub overflow_mul-pages : goal.overflow_mul-pages
overflow_mul-pages c = omega (arith, room-passed _ _ c.requires)

pub bytes-requires-2 : goal.bytes-requires-2
bytes-requires-2 c = (room-passed _ _ c.requires).pool_long

pub coherent-requires : goal.coherent-requires
coherent-requires c =
    room-recent _ _ _ _ _ _ _ _ (room-passed _ _ c.requires) c.live-live.ensures

pub returns : goal.returns
returns c = search well-decided
