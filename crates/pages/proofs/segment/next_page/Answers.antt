-- `pages::segment::next_page` meets its contract.
use native.Mathlib.Omega.{arith}
use Rattle.pages.proofs.Owning.{next-some, next-none}
use Rattle.pages.proofs.segment.next_page.Goals as goal

pub returns-then-ring : goal.returns-then-ring
returns-then-ring c = next-some _ _ _ _ (omega (arith, c.if-ring.true)) c.frame_at.ensures

pub returns : goal.returns
returns c = search next-none
