-- Bad form is refused before all else.
use Rattle.std.proofs.Common.{◌≡◌, true}
use Rattle.std.proofs.lemmas.Result.{err_from_is_err_and}
use Rattle.rules.specs.Register.{is_register}
use Rattle.rules.specs.Sheet.{is_sheet}
use Rattle.laws.specs.Meets.{refuses_closing}
use Rattle.closing.proofs.CloseLaws.{alike, close_1, close_2, close_on}
use Rattle.closing.proofs.epoch.close.Goals as goal

pub returns-in_err-register : goal.returns-in_err-register
returns-in_err-register c =
    let p = err_from_is_err_and c.from_residual.result c.from_residual.ensures.1 in
    let e = c.in_err-register.ensures in
    rw (p.1, p.2, e.0) (refuses_closing _ _ _ _ (close_1 _ _ _ _ e.1))

pub returns-in_err-sheet : goal.returns-in_err-sheet
returns-in_err-sheet c =
    let p = err_from_is_err_and c.from_residual-in_err-sheet.result c.from_residual-in_err-sheet.ensures.1 in
    let e = c.in_err-sheet.ensures in
    let r : is_register c.args.register.now ≡ true = rw c.in_ok-register.ensures at c.in_ok-register.register.examined in
    rw (p.1, p.2, e.0) (refuses_closing _ _ _ _ (close_2 _ _ _ _ r e.1))

pub returns : goal.returns
returns c =
    let r : is_register c.args.register.now ≡ true = rw c.in_ok-register.ensures at c.in_ok-register.register.examined in
    let s : is_sheet c.args.sheet.now ≡ true = rw c.in_ok-sheet.ensures at c.in_ok-sheet.sheet.examined in
    alike (close_on _ _ _ _ r s) (rw (c.in_ok-register.ensures, c.in_ok-sheet.ensures) at c.close_sheet.ensures)
