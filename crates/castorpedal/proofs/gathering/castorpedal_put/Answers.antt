-- The length fits.
use Rattle.std.proofs.Common.{arith}
use Rattle.castorpedal.proofs.Rooms.{put_fits, within}
use Rattle.castorpedal.proofs.gathering.castorpedal_put.Goals as goal

pub answer-requires : goal.answer-requires
answer-requires c = within _ c.put.result c.put.ensures.answered (put_fits _ _ _ _ _ _ (omega arith))
