-- The length fits.
use Rattle.castorpedal.proofs.Rooms.{notice_fits, within}
use Rattle.castorpedal.proofs.gathering.castorpedal_notice.Goals as goal

pub answer-requires : goal.answer-requires
answer-requires c = within _ c.notice.result c.notice.ensures.answered (notice_fits _ _ _ _ _)
