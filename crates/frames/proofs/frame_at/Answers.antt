-- `frames::frame_at` meets its contract.
use Rattle.frames.proofs.Circle.{frame_on, frame-round}
use Rattle.frames.proofs.frame_at.Goals as goal

pub returns-then-frame-frames : goal.returns-then-frame-frames
returns-then-frame-frames c = search frame_on

pub returns : goal.returns
returns c = search frame-round
