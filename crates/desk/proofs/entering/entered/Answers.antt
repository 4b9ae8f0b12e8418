-- A refusal leaves the open set, and a key is entered.
use Rattle.std.proofs.Common.{sym, ◌∙◌, ap}
use Rattle.rules.specs.Refused.{done}
use Rattle.laws.specs.Meets.{refuses_entering, adds}
use Rattle.desk.proofs.entering.entered.Goals as goal

pub returns-in-Ok : goal.returns-in-Ok
returns-in-Ok c = adds _ _ _ (c.in-Ok.ensures.2 ∙ ap done (sym c.with_record.ensures))

pub returns-in-Err : goal.returns-in-Err
returns-in-Err c = refuses_entering _ _ _ c.in-Err.ensures
