-- The items of a block of writes, as they are lent.
use Rattle.std.specs.Prelude.{ℕ, ◌+◌, ◌*◌, List, [], ◌∷◌, get_or}
use Rattle.rules.specs.Call.{Write}
use Rattle.write_blocks.specs.declared.Item.{Item}

-- Three numbers an item: its width, address and value. One or two numbers left over at the end are no item.
unfoldable pub items_of : List ℕ → List Write
items_of [] = []
items_of (w ∷ []) = []
items_of (w ∷ a ∷ []) = []
items_of (w ∷ a ∷ v ∷ rest) = record { width = w; address = a; value = v } ∷ items_of rest

-- One of them, by its place.
abbrev pub item_at : List ℕ → ℕ → Write
item_at xs i = record { width = get_or xs (3 * i) 0; address = get_or xs (3 * i + 1) 0; value = get_or xs (3 * i + 2) 0 }

-- An item as the code has it.
abbrev pub item_of : Item → Write
item_of i = record { width = i.width; address = i.address; value = i.value }
