-- The word, and the number as std writes it.
use Rattle.std.proofs.Common.{◌∙◌}
use Rattle.report.specs.Report.{field}
use Rattle.report.proofs.TextLaws.{then_writes, number_text}
use Rattle.report.proofs.text.Text.field.Goals as goal

pub returns-clause-writes : goal.returns-clause-writes
unfolding field
returns-clause-writes c = rw (c.as_bytes.ensures.value ∙ c.format-number.ensures.text ∙ number_text _ c.ranges.n.fits) at (then_writes c.word.ensures.writes c.word-2.ensures.writes)
