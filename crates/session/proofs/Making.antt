-- The calls made for lines, one after the other. Assumes nothing.
use mathlib.Core.Path.{sym, ◌∙◌, ap}
use mathlib.Core.List.{List, ◌++◌, append-nil, append_assoc}
use Rattle.rules.specs.Call.{Call}
use Rattle.store.specs.Shown.{Kept}
use Rattle.store.proofs.Ran.{ran-none, ran_then}
use Rattle.session.specs.Transcript.{Running}
use Rattle.session.specs.Running.{Made}

pub made_none : (x : Running) (s : Kept) → Made x x s s
made_none x s = (_, sym (append-nil x.calls), ran-none s)

pub made_then : (x y z : Running) {s t u : Kept} → Made x y s t → Made y z t u → Made x z s u
made_then x y z f g =
    (f.0 ++ g.0, g.1 ∙ (ap (λ (cs : List Call). cs ++ g.0) f.1 ∙ append_assoc x.calls f.0 g.0), ran_then f.2 g.2)
