-- The registers, which a state holds beside its cache and what no answer shows. By them alone a state is within its limits, and 11 and 12 are
-- decided.
use Rattle.std.specs.Prelude.{ℕ, ◌+◌, ◌-◌, ◌%◌, Bool, ◌&&◌, ltb}
use Rattle.rules.specs.Settings.{Settings, within, circle}

-- The settings, and where the ends of the stack stand: "CMF is the current frame and OMF the oldest."
pub record Registers : Type 0 where
  pub settings : Settings
  pub cmf : ℕ
  pub omf : ℕ

-- "F frames used in a circle", "Live frames run from OMF to CMF round the circle": how many, in a circle of so many frames,
unfoldable pub live_between : (frames cmf omf : ℕ) → ℕ
live_between frames cmf omf = (cmf + frames - omf) % frames + 1

-- and by the registers.
abbrev pub live_frames : Registers → ℕ
live_frames r = live_between (circle r.settings) r.cmf r.omf

-- The opposite of "The state given holds settings outside their limits, or a CMF or OMF outside 0 to F − 1."
unfoldable pub state_fits : Registers → Bool
state_fits r = within r.settings && (ltb r.cmf (circle r.settings) && ltb r.omf (circle r.settings))

-- After RESET. Figure 2's INIT: "CMF:=0; OMF:=0".
unfoldable pub at_start : Settings → Registers
at_start s = record { settings = s; cmf = 0; omf = 0 }

-- The same registers with CMF and OMF elsewhere.
abbrev pub moved_to : (cmf omf : ℕ) → Registers → Registers
moved_to cmf omf r = record { settings = r.settings; cmf = cmf; omf = omf }
