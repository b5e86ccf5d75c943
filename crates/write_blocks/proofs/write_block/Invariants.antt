-- `write_blocks::write_block` meets its contract.
use Prim.Native.Nat.{◌*◌, ◌<◌}
use lib.ListN.{length}
use Rattle.cache.specs.Entries.{cache_of}
use Rattle.storage.specs.Storage.{state_of, storage_of}
use Rattle.storage.specs.Steps.{given_registers}
use Rattle.write_blocks.proofs.Doing.{Doing}
use Rattle.write_blocks.proofs.write_block.Given as goal

abbrev pub invariant-loop-i : goal.invariant-loop-i
invariant-loop-i l =
    (length l.initial.answers * 4 < 18446744073709551616)
    × Doing (storage_of (state_of l.registers (cache_of l.initial.held l.initial.origins l.initial.valid l.initial.bytes l.initial.last)) l.archive l.initial.pool l.initial.groups l.initial.table l.initial.owners l.history) l.items l.initial.answers l.i
    (storage_of (state_of (given_registers l.registers l.used) (cache_of l.held l.origins l.valid l.bytes l.last)) l.archive l.pool l.groups l.table l.owners l.history) l.answers
