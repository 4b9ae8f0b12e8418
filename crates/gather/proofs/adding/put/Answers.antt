-- A set is put in as an offer.
use Rattle.gather.proofs.OfferLaws.{put_is}
use Rattle.gather.proofs.adding.put.Goals as goal

pub returns : goal.returns
returns c = rw (put_is c.args.sheet.now c.args.epoch c.args.sen c.args.csn c.args.records) c.add.ensures
