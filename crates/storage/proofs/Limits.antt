-- A state within its limits, and lent memory that is long enough, as linear facts. Assumes nothing.
use mathlib.Core.Path.{◌≡◌}
use mathlib.Core.Bool.{true}
use Prim.Native.Nat.{◌≤◌, ◌<◌}
use Rattle.rules.specs.Settings.{elements, enough, covers}
use Rattle.rules.specs.Registers.{state_fits}
use Rattle.rules.proofs.Settings.{Good, within-good}
use Rattle.rules.proofs.Registers.{Fits, fits-facts, live_some, live-at-most}
use Rattle.storage.specs.Storage.{Storage, settings_in, registers_in, lengths_in, live_in}
use Rattle.storage.proofs.Admitting.{Long, covers-long}

pub record Limits (x : Storage) : Type 0 where
  pub fits : Fits (registers_in x.state)
  pub good : Good (settings_in x.state)
  pub live_some : 0 < live_in x.state
  pub live_most : live_in x.state ≤ x.state.registers.frames

pub limits : (x : Storage) → state_fits (registers_in x.state) ≡ true → Limits x
limits x e =
    let f = fits-facts (registers_in x.state) e in
    record {
      fits = f;
      good = within-good (settings_in x.state) f.limits;
      live_some = live_some (registers_in x.state) f;
      live_most = live-at-most (registers_in x.state) f;
    }

pub lent-long : (x : Storage) → enough (settings_in x.state) (lengths_in x.memory) ≡ true → Long (elements (settings_in x.state)) (lengths_in x.memory)
unfolding covers
lent-long x e = covers-long (elements (settings_in x.state)) (lengths_in x.memory) e
