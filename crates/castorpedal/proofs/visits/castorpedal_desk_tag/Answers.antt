-- The length fits.
use Rattle.castorpedal.proofs.Rooms.{within}
use Rattle.castorpedal.proofs.DeskKept.{tag_fits}
use Rattle.castorpedal.proofs.visits.castorpedal_desk_tag.Goals as goal

pub answer-requires : goal.answer-requires
answer-requires c = within _ c.tag.result c.tag.ensures.answered (tag_fits _ _)
