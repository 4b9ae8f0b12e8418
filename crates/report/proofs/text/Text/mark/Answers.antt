-- Three numbers.
use Rattle.report.specs.Report.{mark_text}
use Rattle.report.proofs.TextLaws.{then_writes}
use Rattle.report.proofs.text.Text.mark.Goals as goal

pub returns-clause-writes : goal.returns-clause-writes
unfolding mark_text
returns-clause-writes c = search (then_writes)
