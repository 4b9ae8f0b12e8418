-- The length fits.
use Rattle.std.proofs.Common.{arith}
use Rattle.castorpedal.proofs.Rooms.{open_fits, within}
use Rattle.castorpedal.proofs.gathering.castorpedal_open.Goals as goal

pub answer-requires : goal.answer-requires
answer-requires c = within _ c.open.result c.open.ensures.answered (open_fits _ _ _ (omega arith) (omega arith))
