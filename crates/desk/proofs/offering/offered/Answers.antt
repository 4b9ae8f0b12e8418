-- What it offers is put, and is gone unless that was refused.
use Rattle.desk.proofs.OfferLaws.{put_offers}
use Rattle.desk.proofs.offering.offered.Goals as goal

pub returns : goal.returns
returns c = put_offers c.args.set _ _ _ _ _ _ c.put-answer.result c.offered_length-n.ensures c.put-answer.ensures c.left_by.ensures
