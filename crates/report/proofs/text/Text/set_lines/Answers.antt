-- A line more.
use Rattle.std.proofs.Common.{arith, ap, ◌∙◌}
use Rattle.rules.specs.Sheet.{WriteSet}
use Rattle.report.proofs.LineLaws.{set_more}
use Rattle.report.proofs.text.Text.set_lines.Goals as goal

pub loop-i-preserved : goal.loop-i-preserved
loop-i-preserved c = record {
  written = set_more _ _ _ (omega arith) (c.csn.ensures ∙ ap (λ (w : WriteSet). w.csn) c.set.ensures) (c.set_verdict.ensures _ (omega arith)) c.loop-i.invariant.written c.set_line.ensures.writes;
  room = omega arith;
}
