-- After i turns the lines of the first i sets stand there.
use Rattle.std.proofs.Common.{◌*◌}
use Rattle.sheets.specs.Views.{sheet_of}
use Rattle.report.specs.Report.{line_room}
use Rattle.report.specs.Text.{TakesAtMost, Writes}
use Rattle.report.proofs.LineLaws.{first_sets}
use Rattle.report.proofs.text.Text.set_lines.Given as goal

abbrev pub invariant-loop-i : goal.invariant-loop-i
invariant-loop-i l = record {
  written : Writes (first_sets (sheet_of l.sheet) l.verdicts l.i) l.initial.self l.self;
  room : TakesAtMost (line_room * l.i) l.initial.self l.self;
}
