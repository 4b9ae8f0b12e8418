-- The verdicts of the sets before set i are put.
use Rattle.std.proofs.Common.{◌<◌, refl, ◌∙◌, ap₂, arith, length}
use Rattle.registers.specs.Views.{register_of}
use Rattle.sheets.specs.SheetReadings.{set_at}
use Rattle.sheets.specs.SheetSizes.{few_sets}
use Rattle.sheets.specs.Views.{sheet_of}
use Rattle.closing.specs.Outcome.{verdict_by}
use Rattle.closing.proofs.VerdictLaws.{verdict_by_lem, verdicts_start, verdicts_step, verdicts_end}
use Rattle.closing.proofs.verdicts.put_verdicts.Goals as goal

pub loop-i-init : goal.loop-i-init
loop-i-init c = (refl, verdicts_start _ _ _)

pub loop-i-preserved : goal.loop-i-preserved
loop-i-preserved c = let l = c.loop-i in
    let j = c.args.judged.now in
    let g = register_of j.register in
    let s = sheet_of j.sheet in
    let e = c.put_verdict.ensures in
    let h : l.i < length s.sets = omega arith in (
      e.long ∙ l.invariant.0,
      verdicts_step g s _ l.i _ h (c.verdict_of.ensures ∙ ap₂ verdict_by (c.key.ensures ∙ j.tells_wrong l.i h) (c.key-in-loop-i.ensures ∙ j.tells_lost l.i h) ∙ verdict_by_lem g s (set_at s l.i)) l.invariant.1 e,
    )

pub returns : goal.returns
returns c = let l = c.loop-i in
    let j = c.args.judged.now in
    verdicts_end (register_of j.register) (sheet_of j.sheet) _ l.i (omega arith) (few_sets _ j.sheet.examined) (omega arith) l.invariant.1
