-- Joining refuses as the paper does, and writes the joined sheet.
use Rattle.std.proofs.Common.{arith, length, ◌∙◌}
use Rattle.std.proofs.lemmas.Bool.Decides.{nat_tests}
use Rattle.std.proofs.lemmas.Result.{err_from_is_err_and}
use Rattle.rules.specs.declared.answer.Refusal.TheVariants.{SheetIllFormed, WrongEpoch, WrongRoster, BufferShort}
use Rattle.rules.specs.Sheet.{sheet_bytes}
use Rattle.rules.specs.Gathering.{joined}
use Rattle.rules.specs.Refused.{join_sheets}
use Rattle.laws.specs.Meets.{refuses, writes}
use Rattle.sheets.specs.Views.{sheet_of}
use Rattle.joining.proofs.JoinLaws.{first_ill, second_ill, both_read}
use Rattle.joining.proofs.joined.join.Goals as goal

pub returns-in_err-a : goal.returns-in_err-a
returns-in_err-a c =
    let p = err_from_is_err_and c.from_residual.result c.from_residual.ensures.1 in
    rw (p.1, p.2, c.in_err-a.ensures.0) (refuses _ SheetIllFormed _ (first_ill _ _ _ c.in_err-a.ensures.1))

pub returns-in_err-b : goal.returns-in_err-b
returns-in_err-b c =
    let p = err_from_is_err_and c.from_residual-in_err-b.result c.from_residual-in_err-b.ensures.1 in
    rw (p.1, p.2, c.in_err-b.ensures.0) (refuses _ SheetIllFormed _ (second_ill _ _ c.in_ok-a.a c.in_ok-a.ensures c.in_err-b.ensures.1))

pub returns-then-epoch : goal.returns-then-epoch
unfolding join_sheets
returns-then-epoch c =
    let e = both_read (length c.args.out.now) c.in_ok-a.a c.in_ok-b.b c.in_ok-a.ensures c.in_ok-b.ensures in
    refuses _ WrongEpoch _ (e ∙ grind (arith, nat_tests))

pub returns-then-roster : goal.returns-then-roster
unfolding join_sheets
returns-then-roster c =
    let e = both_read (length c.args.out.now) c.in_ok-a.a c.in_ok-b.b c.in_ok-a.ensures c.in_ok-b.ensures in
    refuses _ WrongRoster _ (e ∙ grind (arith, nat_tests))

pub returns-then-out-lt-SHEET_ROOM : goal.returns-then-out-lt-SHEET_ROOM
unfolding join_sheets
returns-then-out-lt-SHEET_ROOM c =
    let e = both_read (length c.args.out.now) c.in_ok-a.a c.in_ok-b.b c.in_ok-a.ensures c.in_ok-b.ensures in
    refuses _ BufferShort _ (e ∙ grind (arith, nat_tests))

pub returns : goal.returns
unfolding join_sheets
returns c =
    let e = both_read (length c.args.out.now) c.in_ok-a.a c.in_ok-b.b c.in_ok-a.ensures c.in_ok-b.ensures in
    writes _ (sheet_bytes (joined (sheet_of c.in_ok-a.a) (sheet_of c.in_ok-b.b))) _ _ _ (e ∙ grind (arith, nat_tests)) c.join_into.ensures.long c.join_into.ensures.bytes
