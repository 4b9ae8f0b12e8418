-- A line more.
use Rattle.std.proofs.Common.{arith}
use Rattle.report.proofs.LineLaws.{row_more}
use Rattle.report.proofs.text.Text.row_lines.Goals as goal

pub loop-i-preserved : goal.loop-i-preserved
loop-i-preserved c = record {
  written = row_more _ _ (omega arith) c.row.ensures c.loop-i.invariant.written c.row_line.ensures.writes;
  room = omega arith;
}
