-- The set that leads among those before set i.
use Rattle.std.proofs.Common.{sym, ◌∙◌, ap, arith}
use Rattle.laws.specs.SheetLaws.{sheet_sound}
use Rattle.laws.specs.Says.{clash}
use Rattle.rules.specs.Closing.{mark_in}
use Rattle.sheets.specs.Views.{sheet_of}
use Rattle.judging.specs.Answers.{earlier_of}
use Rattle.judging.specs.Tables.{keys_of}
use Rattle.judging.proofs.WinnerLaws.{lead_more, lead_same, lead_wins}
use Rattle.judging.proofs.judge.Claims.winner.Goals as goal
use Rattle.judging.proofs.judge.Claims.winner.Goals.{then-claims, else-claims}

pub loop-i-preserved : goal.loop-i-preserved
loop-i-preserved c = let l = c.loop-i in
    let self = c.args.self.now in
    let s = sheet_of self.sheet in
    let sound = sheet_sound _ self.sheet.examined in
    elim c.if-claims.branch [
      | then-claims w ↦ rw (w.lead-is ∙ w.earlier_of-lead.ensures ∙ ap (earlier_of l.lead) (w.mark_of.ensures ∙ ap (mark_in s) w.set.ensures))
          (lead_more s (keys_of self.wrong.now) c.args.key l.i l.lead sound (omega arith) l.invariant (sym c.claims.ensures ∙ w.if-claims.true))
      | else-claims w ↦ rw w.lead-is (lead_same s (keys_of self.wrong.now) c.args.key l.i l.lead l.invariant (λ d. clash (c.claims.ensures ∙ d) w.if-claims.false))
    ]

pub returns : goal.returns
returns c = let l = c.loop-i in
    let self = c.args.self.now in
    lead_wins (sheet_of self.sheet) (keys_of self.wrong.now) c.args.key (sheet_sound _ self.sheet.examined) _ self.told l.i l.lead (omega arith) l.invariant
