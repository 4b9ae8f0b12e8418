-- The read check's answer in numbers, case by case, and how its exports keep their promise.
use mathlib.Core.Path.{◌∙◌}
use Rattle.rules.specs.ReadCheck.{Finding}
use Rattle.rules.specs.Answers.{Checked}
use Rattle.rules.specs.Refused.{Outcome}
use Rattle.rules.specs.Promises.{CheckPromise}
use Rattle.castorpedal.specs.declared.answer.CChecked.{CChecked}
use Rattle.castorpedal.specs.Exported.{ToldChecked, KeptCheck}

pub kept_check : (o : Outcome Finding) {a : Checked} {r : CChecked} → CheckPromise o a → ToldChecked a r → KeptCheck o r
kept_check o p t = record { answered = t.numbers ∙ p.answered }
