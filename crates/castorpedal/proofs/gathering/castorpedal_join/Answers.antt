-- The length fits.
use Rattle.castorpedal.proofs.Rooms.{join_fits, within}
use Rattle.castorpedal.proofs.gathering.castorpedal_join.Goals as goal

pub answer-requires : goal.answer-requires
answer-requires c = within _ c.join.result c.join.ensures.answered (join_fits _ _ _)
