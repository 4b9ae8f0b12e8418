-- Refused at the first test that fails.
use Rattle.std.proofs.Common.{sym, ◌∙◌}
use Rattle.laws.specs.Meets.{refuses_closing}
use Rattle.closing.proofs.CloseLaws.{alike, sheet_4, sheet_6, sheet_7, sheet_on}
use Rattle.closing.proofs.epoch.close_sheet.Goals as goal

pub returns-then-not-follows : goal.returns-then-not-follows
returns-then-not-follows c = refuses_closing _ _ _ _ (sheet_4 _ _ _ _ (sym c.follows.ensures ∙ c.if-not-follows.true))

pub returns-then-is_spoiled : goal.returns-then-is_spoiled
returns-then-is_spoiled c = refuses_closing _ _ _ _ (sheet_6 _ _ _ _ (sym c.follows.ensures ∙ c.if-not-follows.false) (sym c.is_spoiled.ensures ∙ c.if-is_spoiled.true))

pub returns-then-not-complete : goal.returns-then-not-complete
returns-then-not-complete c = refuses_closing _ _ _ _
    (sheet_7 _ _ _ _ (sym c.follows.ensures ∙ c.if-not-follows.false) (sym c.is_spoiled.ensures ∙ c.if-is_spoiled.false) (sym c.complete.ensures ∙ c.if-not-complete.true))

pub returns : goal.returns
returns c = alike
    (sheet_on _ _ _ _ (sym c.follows.ensures ∙ c.if-not-follows.false) (sym c.is_spoiled.ensures ∙ c.if-is_spoiled.false) (sym c.complete.ensures ∙ c.if-not-complete.false))
    c.close_complete.ensures
