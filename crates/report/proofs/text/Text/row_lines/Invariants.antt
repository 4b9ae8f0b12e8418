-- After i turns the lines of the first i rows stand there.
use Rattle.std.proofs.Common.{◌*◌, take}
use Rattle.rules.specs.Lists.{flat}
use Rattle.registers.specs.Views.{register_of}
use Rattle.report.specs.Report.{line_room, row_line}
use Rattle.report.specs.Text.{TakesAtMost, Writes}
use Rattle.report.proofs.text.Text.row_lines.Given as goal

abbrev pub invariant-loop-i : goal.invariant-loop-i
invariant-loop-i l = record {
  written : Writes (flat row_line (take l.i (register_of l.register).rows)) l.initial.self l.self;
  room : TakesAtMost (line_room * l.i) l.initial.self l.self;
}
