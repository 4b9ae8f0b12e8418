-- A notice is put in as an offer.
use Rattle.gather.proofs.OfferLaws.{notice_is}
use Rattle.gather.proofs.adding.notice.Goals as goal

pub returns : goal.returns
returns c = rw notice_is c.add.ensures
