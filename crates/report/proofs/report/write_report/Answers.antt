-- The head line, the sets, the rows, each where the one before it ended.
use Rattle.std.proofs.Common.{ap, arith, length, rules}
use Rattle.sheets.specs.SheetSizes.{few_sets}
use Rattle.report.specs.Report.{report}
use Rattle.report.proofs.TextLaws.{then_writes}
use Rattle.report.proofs.LineLaws.{few_rows}
use Rattle.report.proofs.report.write_report.Goals as goal

pub set_lines-requires-clause-room : goal.set_lines-requires-clause-room
set_lines-requires-clause-room c = let few = few_sets c.args.sheet.now c.requires.1 in
    omega (arith, ap length c.new-text.ensures.holds)

pub row_lines-requires : goal.row_lines-requires
row_lines-requires c = let few = few_sets c.args.sheet.now c.requires.1 in
    let small = few_rows c.args.register.now c.requires.0 in
    omega (arith, ap length c.new-text.ensures.holds)

pub returns : goal.returns
unfolding report
returns c = let few = few_sets c.args.sheet.now c.requires.1 in
    let small = few_rows c.args.register.now c.requires.0 in
    let head = rw (c.snapshot.ensures, c.row_count.ensures) at c.snapshot_line.ensures.writes in
    let all = then_writes (then_writes head c.set_lines.ensures.writes) c.row_lines.ensures.writes in
    (search rules, omega arith)
