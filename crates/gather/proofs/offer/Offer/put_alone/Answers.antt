-- What is written of a well-formed offer of a master in the roster joins as the offer.
use Rattle.std.proofs.Common.{arith}
use Rattle.sheets.specs.Views.{sheet_of}
use Rattle.gather.specs.OneSheet.{of_set, of_notice}
use Rattle.gather.proofs.OfferLaws.{set_says, notice_says, fair_set, fair_notice, joins}
use Rattle.gather.proofs.offer.Offer.put_alone.Goals as goal

pub one_set-requires : goal.one_set-requires
one_set-requires c = (c.requires.room, ((set_says _ _ _).told (rw c.in-Set.is at c.requires.good)).1.1)

pub one_notice-requires : goal.one_notice-requires
one_notice-requires c =
    let f = (notice_says _ _ _).told (rw c.in-Notice.is at c.requires.good) in
    (c.requires.room, omega (arith, f.1.0), f.1.1)

pub returns-in-Set : goal.returns-in-Set
unfolding of_set
returns-in-Set c =
    let s = c.args.sheet.now in
    let f = fair_set (sheet_of s) _ c.in-Set.csn _ (rw c.in-Set.is at c.requires.good) (rw c.in-Set.is at c.requires.admitted) (omega arith) in
    rw c.in-Set.is (joins s _ f (rw (c.epoch-epoch.ensures, c.roster-roster.ensures) at c.one_set.ensures))

pub returns-in-Notice : goal.returns-in-Notice
unfolding of_notice
returns-in-Notice c =
    let s = c.args.sheet.now in
    let f = fair_notice (sheet_of s) c.in-Notice.master _ (rw c.in-Notice.is at c.requires.good) (rw c.in-Notice.is at c.requires.admitted) in
    rw c.in-Notice.is (joins s _ f (rw (c.epoch-epoch.ensures, c.roster-roster.ensures) at c.one_notice.ensures))
