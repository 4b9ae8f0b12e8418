-- The code and the key behind it.
use Rattle.std.proofs.Common.{sym, ◌∙◌, ap, zero-add}
use Rattle.forms.specs.VerdictForm.{verdict_of, verdict_in}
use Rattle.forms.proofs.VerdictPlaces.{verdict_place_lem}
use Rattle.forms.proofs.verdict.set_verdict.Goals as goal

pub returns : goal.returns
unfolding verdict_in
returns c n h = c.verdict_of.ensures ∙ ap (verdict_of _) c.get.ensures ∙ ap (verdict_in _) (sym (zero-add _)) ∙ sym (verdict_place_lem n _ 0 _ h)
