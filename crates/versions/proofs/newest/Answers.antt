-- `versions::newest` meets its contract.
use Rattle.versions.proofs.Finding.{newest-asks, newest-within, newest-turn, newest-fits}
use native.Mathlib.Omega.{arith}
use Rattle.versions.proofs.newest.Goals as goal

pub locate-at-requires : goal.locate-at-requires
locate-at-requires c =
    newest-asks _ _ _ _ _ _ _ c.requires _ _ c.search-found.ensures c.in-Some.is

pub frame_at-frame-requires : goal.frame_at-frame-requires
frame_at-frame-requires c =
    newest-turn _ _ _ _ _ _ _ c.requires _ _ c.search-found.ensures c.in-Some.is

pub overflow_cast-frame : goal.overflow_cast-frame
overflow_cast-frame c = search newest-fits

pub overflow_sub-back-in-Some : goal.overflow_sub-back-in-Some
overflow_sub-back-in-Some c =
    omega (arith, newest-within _ _ _ _ _ _ _ c.requires _ _ c.search-found.ensures c.in-Some.is)
