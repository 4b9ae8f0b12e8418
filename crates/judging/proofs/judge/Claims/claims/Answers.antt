-- The table tells whether the set is fit, and the set's records whether it names the key.
use Rattle.std.proofs.Common.{ℕ, ◌≡◌, sym, ◌∙◌, ap, Bool, false, not, arith, Option, None, Some}
use Rattle.std.proofs.lemmas.Bool.{false≢true}
use Rattle.std.proofs.lemmas.Grind.{common_steps}
use Rattle.std.specs.Option.{is_some}
use Rattle.std.specs.Prelude.{is_none}
use Rattle.rules.specs.Lists.{◌and◌}
use Rattle.judging.specs.Tables.{none_at, claims_by}
use Rattle.judging.proofs.WinnerLaws.{names_recorded}
use Rattle.judging.proofs.judge.Claims.claims.Goals as goal

unfit : (wrong : Option ℕ) {fit : Bool} (named : Bool) → is_some wrong ≡ not fit → fit ≡ false → fit ≡ (is_none wrong and named)
unfolding ◌and◌
unfit None named e f = absurd (false≢true (e ∙ ap not f))
unfit (Some k) named e f = f

pub returns-then-is_none : goal.returns-then-is_none
unfolding claims_by none_at ◌and◌
returns-then-is_none c = grind (arith, common_steps, names_recorded)

pub returns-else-is_none : goal.returns-else-is_none
unfolding claims_by none_at
returns-else-is_none c = unfit _ _ (sym (ap is_some c.key.ensures) ∙ c.is_none.ensures) c.if-is_none.false
