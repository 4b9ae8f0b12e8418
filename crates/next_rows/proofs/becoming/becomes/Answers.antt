-- Gone where it is deleted; else with the value and the mark of the committed set that names it, or as it stood.
use Rattle.std.proofs.Common.{◌∙◌, sym, eqb-true}
use Rattle.std.proofs.lemmas.Bool.{eqb-false}
use Rattle.next_rows.proofs.RowLaws.{row_gone, row_changed, row_kept}
use Rattle.next_rows.proofs.becoming.becomes.Goals as goal

pub returns-in_default : goal.returns-in_default
returns-in_default c = row_kept _ _ _ c.in_default.ensures

pub returns-then-is : goal.returns-then-is
returns-then-is c = row_gone _ _ _ _ c.in-Some.ensures (eqb-true _ _ (sym c.is.ensures ∙ c.if-is.true))

pub returns : goal.returns
returns c = row_changed _ _ _ _ c.in-Some.ensures (eqb-false _ _ (sym c.is.ensures ∙ c.if-is.false))
