-- The lengths fit.
use Rattle.castorpedal.proofs.Closes.{close_fits, within_closed}
use Rattle.castorpedal.proofs.epoch.castorpedal_close.Goals as goal

pub closed-requires : goal.closed-requires
closed-requires c = let w = c.close in within_closed _ w.result w.ensures.answered (close_fits _ _ _ _)
