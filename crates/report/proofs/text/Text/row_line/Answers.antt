-- A word and its number, the value, the mark, the end.
use Rattle.report.specs.Report.{row_line}
use Rattle.report.proofs.TextLaws.{then_writes}
use Rattle.report.proofs.text.Text.row_line.Goals as goal

pub returns-clause-writes : goal.returns-clause-writes
unfolding row_line
returns-clause-writes c = search (then_writes)
