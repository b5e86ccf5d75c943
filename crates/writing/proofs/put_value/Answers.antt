-- `writing::put_value` meets its contract.
use Rattle.cache.proofs.Hits.{found-few}
use Rattle.storage.proofs.Storing.{put-told}
use borrow.Author.Rules.{rules}
use native.Mathlib.Omega.{arith}
use Rattle.writing.proofs.put_value.Goals as goal

pub latest-latest-requires : goal.latest-latest-requires
latest-latest-requires c = (rw c.shape-shape.ensures c.requires.0.newest, found-few _ _ _ _ c.requires.1)

pub overflow_sub-live : goal.overflow_sub-live
overflow_sub-live c = omega (arith, c.requires.0.newest.live_some)

pub put-requires : goal.put-requires
put-requires c = rw c.shape-shape.ensures c.requires.0.put

pub overflow_cast-frame : goal.overflow_cast-frame
overflow_cast-frame c = omega (arith, c.requires.0.cmf_below, c.requires.0.newest.asks.lent.frames_few)

pub place-requires : goal.place-requires
place-requires c = c.requires.1

pub returns : goal.returns
returns c =
    put-told _ _ _ _ _ _ _ c.shape-shape.ensures _ c.requires.1 _ c.latest-latest.ensures _ c.edited-content.ensures (search (rules, c.edited-content.type_inv))
    _ _ _ _ c.put.ensures.bytes c.put.ensures.bit c.put.ensures.table c.put.ensures.owner _ c.place.ensures
