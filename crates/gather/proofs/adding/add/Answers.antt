-- Refused in the order of the numbers, or joined with the sheet that holds the offer alone.
use Rattle.std.proofs.Common.{arith, length, sym, ◌∙◌}
use Rattle.std.proofs.lemmas.Bool.Decides.{nat_tests}
use Rattle.std.proofs.lemmas.Result.{err_from_is_err_and}
use Rattle.rules.specs.declared.answer.Refusal.TheVariants.{SheetIllFormed, OfferIllFormed, WrongEpoch, WrongRoster, BufferShort}
use Rattle.rules.specs.Sheet.{sheet_bytes}
use Rattle.rules.specs.Gathering.{with_offer}
use Rattle.rules.specs.Refused.{offer_to}
use Rattle.laws.specs.Meets.{refuses, writes}
use Rattle.sheets.specs.Views.{sheet_of}
use Rattle.gather.specs.Offers.{offer_of}
use Rattle.gather.proofs.OfferLaws.{master_small, ill_sheet, to_sheet}
use Rattle.gather.proofs.adding.add.Goals as goal

pub returns-in_err-sheet : goal.returns-in_err-sheet
returns-in_err-sheet c =
    let p = err_from_is_err_and c.from_residual.result c.from_residual.ensures.1 in
    rw (p.1, p.2, c.in_err-sheet.ensures.0) (refuses _ SheetIllFormed _ (ill_sheet _ _ _ _ c.in_err-sheet.ensures.1))

pub returns-then-not-is_good : goal.returns-then-not-is_good
unfolding offer_to
returns-then-not-is_good c =
    let e = to_sheet c.args.epoch c.args.offer.now (length c.args.out.now) c.in_ok-sheet.sheet c.in_ok-sheet.ensures in
    refuses _ OfferIllFormed _ (rw (← c.if-not-is_good.ensures) at e)

pub returns-then-epoch : goal.returns-then-epoch
unfolding offer_to
returns-then-epoch c =
    let e = to_sheet c.args.epoch c.args.offer.now (length c.args.out.now) c.in_ok-sheet.sheet c.in_ok-sheet.ensures in
    let g = rw (← c.if-not-is_good.ensures) at e in
    refuses _ WrongEpoch _ (g ∙ grind (arith, nat_tests))

pub in_roster-requires : goal.in_roster-requires
in_roster-requires c = rw c.master-master.ensures (master_small c.args.epoch c.args.offer.now (sym c.if-not-is_good.ensures))

pub returns-then-not-in_roster : goal.returns-then-not-in_roster
unfolding offer_to
returns-then-not-in_roster c =
    let e = to_sheet c.args.epoch c.args.offer.now (length c.args.out.now) c.in_ok-sheet.sheet c.in_ok-sheet.ensures in
    let g = rw (← c.if-not-is_good.ensures) at e in
    refuses _ WrongRoster _ (g ∙ grind (arith, nat_tests))

pub returns-then-out-lt-SHEET_ROOM : goal.returns-then-out-lt-SHEET_ROOM
unfolding offer_to
returns-then-out-lt-SHEET_ROOM c =
    let e = to_sheet c.args.epoch c.args.offer.now (length c.args.out.now) c.in_ok-sheet.sheet c.in_ok-sheet.ensures in
    let g = rw (← c.if-not-is_good.ensures) at e in
    refuses _ BufferShort _ (g ∙ grind (arith, nat_tests))

pub returns : goal.returns
unfolding offer_to
returns c =
    let e = to_sheet c.args.epoch c.args.offer.now (length c.args.out.now) c.in_ok-sheet.sheet c.in_ok-sheet.ensures in
    let g = rw (← c.if-not-is_good.ensures) at e in
    let w = rw c.alone.ensures at c.join_into.ensures in
    writes _ (sheet_bytes (with_offer (sheet_of c.in_ok-sheet.sheet) (offer_of c.args.offer.now))) _ _ _ (g ∙ grind (arith, nat_tests)) w.long w.bytes
