-- `versions::put` meets its contract.
use Rattle.versions.proofs.Putting.{put-claims}
use Rattle.versions.proofs.put.Goals as goal

pub claim-requires : goal.claim-requires
claim-requires c =
    put-claims _ _ _ _ _ _ _ _ _ c.requires _ c.frame_at-frame.ensures
