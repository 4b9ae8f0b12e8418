-- The sheet's length fits.
use Rattle.std.proofs.Common.{arith}
use Rattle.castorpedal.proofs.DeskKept.{offer_within}
use Rattle.castorpedal.proofs.visits.castorpedal_desk_offer.Goals as goal

pub answer-requires : goal.answer-requires
answer-requires c = offer_within _ _ _ _ _ _ c.offer.result (omega arith) c.offer.ensures
