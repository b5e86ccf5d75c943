-- An empty cache is Figure 3's. Assumes nothing.
use mathlib.Core.Path.{◌≡◌, ◌∙◌, ap}
use Rattle.rules.specs.Figure3.{empty_cache}
use Rattle.cache.specs.declared.Cache.{Cache}
use Rattle.cache.specs.Steps.{emptied}
use Rattle.cache.specs.Shown.{shown}
use Rattle.cache.proofs.Uses.{empty-shown}

pub empty-told : (r : Cache) → r ≡ emptied → (r ≡ emptied) × (shown r ≡ empty_cache)
empty-told r e = (e, ap shown e ∙ empty-shown)
