-- The lent memory as one value.
use Rattle.std.specs.Prelude.{◌≡◌}
use Rattle.store.specs.declared.Memory.{Memory}
use Rattle.store.specs.Shown.{Lent, lent_of}

-- What its pieces hold.
abbrev pub lent_in : Memory → Lent
lent_in m = lent_of m.archive.now m.pool.now m.groups.now m.table.now m.owners.now m.history.now

-- Its pieces are the same as before.
abbrev pub SamePieces : (before after : Memory) → Type 0
SamePieces m n =
    (n.archive.ghost_name ≡ m.archive.ghost_name)
    × (n.pool.ghost_name ≡ m.pool.ghost_name)
    × (n.groups.ghost_name ≡ m.groups.ghost_name)
    × (n.table.ghost_name ≡ m.table.ghost_name)
    × (n.owners.ghost_name ≡ m.owners.ghost_name)
    × (n.history.ghost_name ≡ m.history.ghost_name)
