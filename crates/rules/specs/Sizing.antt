-- The answer of the sizing call, which "stands outside" demand 3's list.
use Rattle.std.specs.Prelude.{ℕ, ◌+◌, ◌*◌, ◌≤◌, cond}
use Rattle.rules.specs.Settings.{Settings, within, bytes}
use Rattle.rules.specs.declared.Need.{Need}

-- L, F and P as the calls take them.
abbrev pub settings_of : (lines frames pages : ℕ) → Settings
settings_of lines frames pages = record { lines = lines; frames = frames; pages = pages }

-- "A sizing call gives the exact need of each piece from L, F and P."
unfoldable pub sizes_of : Settings → Need
sizes_of s =
    record {
      refusal = 0;
      archive = (bytes s).archive;
      pool = (bytes s).pool;
      groups = (bytes s).groups;
      table = (bytes s).table;
      owners = (bytes s).owners;
      history = (bytes s).history;
    }

-- Refused, it "returns nought for its values" (demand 1).
unfoldable pub no_sizes : Need
no_sizes = record { refusal = 4; archive = 0; pool = 0; groups = 0; table = 0; owners = 0; history = 0 }

-- 4: "L, F or P is outside its limits (RESET, sizing)."
unfoldable pub sizing : Settings → Need
sizing s = cond (within s) (sizes_of s) no_sizes

-- The bytes of a state, registers and cache, which the caller keeps. The exported calls are lent the cache's arrays.
abbrev pub state_bytes : ℕ
state_bytes = 784

-- "All other lent memory, in bytes, is at most L × F + 16 × P + 4,096 in total": all but archive and pool, a state's bytes included.
abbrev pub Bounded : Settings → Need → Type 0
Bounded s n = n.groups + n.table + n.owners + n.history + state_bytes ≤ s.lines * s.frames + 16 * s.pages + 4096
