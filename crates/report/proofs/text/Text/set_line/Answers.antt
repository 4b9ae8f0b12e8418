-- A word and its number, the verdict, the end.
use Rattle.report.specs.Report.{set_line}
use Rattle.report.proofs.TextLaws.{then_writes}
use Rattle.report.proofs.text.Text.set_line.Goals as goal

pub returns-clause-writes : goal.returns-clause-writes
unfolding set_line
returns-clause-writes c = search (then_writes)
