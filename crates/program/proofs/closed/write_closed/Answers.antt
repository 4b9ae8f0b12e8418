-- What closing wrote is what the report is of.
use Rattle.std.proofs.Common.{arith, length-take, ◌∙◌, ap, rules}
use Rattle.report.specs.Report.{refused_text}
use Rattle.program.proofs.PrintLaws.{Written, closed_written, refused_text_lem, put_as}
use Rattle.program.proofs.closed.write_closed.Goals as goal
use Rattle.program.proofs.closed.write_closed.Goals.{In-Ok}

written : (c : In-Ok) → Written c.args.register.now c.args.sheet.now c.close.new.next c.close.new.verdicts c.in-Ok.written.register
written c = closed_written c.args.register.now c.args.sheet.now _ _ _ (search rules) (search rules) c.close.ensures c.in-Ok.is

pub slice_bounds-next-end : goal.slice_bounds-next-end
slice_bounds-next-end c = (written c).within

pub slice_bounds-write_report-end : goal.slice_bounds-write_report-end
slice_bounds-write_report-end c = simp length-take (omega (arith, (written (goal.at.slice_bounds-write_report-end c).In-Ok).within))

pub write_report-requires : goal.write_report-requires
write_report-requires c = let w = written (goal.at.write_report-requires c).In-Ok in (w.is-next, w.is-sheet, w.enough, search rules)

pub returns-in-Ok : goal.returns-in-Ok
returns-in-Ok c = (put_as (written (goal.at.returns-in-Ok c).In-Ok).text c.write_report.ensures.0, search rules)

pub returns-in-Err : goal.returns-in-Err
returns-in-Err c = let e = refused_text_lem c.args.register.now c.args.sheet.now _ _ _ (search rules) (search rules) c.close.ensures c.in-Err.is in
    (put_as (ap refused_text c.from.ensures ∙ e) c.put_refused.ensures.0, omega (arith, c.put_refused.ensures.1))
