-- A word, the number, the end.
use Rattle.report.specs.Report.{refused_text}
use Rattle.report.proofs.TextLaws.{then_writes}
use Rattle.report.proofs.text.Text.refused.Goals as goal

pub returns-clause-writes : goal.returns-clause-writes
unfolding refused_text
returns-clause-writes c = search (then_writes)
