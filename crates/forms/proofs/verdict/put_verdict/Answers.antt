-- A byte, and the four after it.
use Rattle.std.proofs.Common.{◌∙◌, add-one}
use Rattle.words.specs.Words.{stored}
use Rattle.rules.specs.Refused.{verdict_bytes}
use Rattle.forms.proofs.VerdictStored.{verdict_added}
use Rattle.forms.proofs.verdict.put_verdict.Goals as goal

pub returns : goal.returns
unfolding stored verdict_bytes
returns c = verdict_added _ _ _ (c.put.ensures ∙ simp (c.code.ensures, c.key.ensures, add-one))
