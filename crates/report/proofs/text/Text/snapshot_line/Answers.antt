-- Two words with their numbers, and the end.
use Rattle.report.specs.Report.{snapshot_line}
use Rattle.report.proofs.TextLaws.{then_writes}
use Rattle.report.proofs.text.Text.snapshot_line.Goals as goal

pub returns-clause-writes : goal.returns-clause-writes
unfolding snapshot_line
returns-clause-writes c = search (then_writes)
