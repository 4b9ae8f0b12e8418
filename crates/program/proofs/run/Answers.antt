-- The register and the sheet are the first bytes of their buffers, and both are examined.
use Rattle.std.proofs.Common.{ap, arith}
use Rattle.report.specs.Report.{refused_text}
use Rattle.input.specs.Reading.{register}
use Rattle.program.specs.Printed.{refuses, closes}
use Rattle.program.proofs.PrintLaws.{put_as}
use Rattle.program.proofs.run.Goals as goal

pub returns-in_default : goal.returns-in_default
returns-in_default c = (refuses 1 register (put_as (ap refused_text c.from.ensures) c.put_refused.ensures.0), omega (arith, c.put_refused.ensures.1))

pub returns-in-Ok : goal.returns-in-Ok
returns-in-Ok c = (closes _ _ c.in-Some.ensures.examined c.in-Ok.ensures.examined c.write_closed.ensures.0, c.write_closed.ensures.1)

pub returns-in-Err : goal.returns-in-Err
returns-in-Err c = (refuses _ c.in-Err.ensures (put_as (ap refused_text c.from-in-Err.ensures) c.put_refused-in-Err.ensures.0), omega (arith, c.put_refused-in-Err.ensures.1))
