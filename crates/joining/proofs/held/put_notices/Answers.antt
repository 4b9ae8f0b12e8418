-- One notice more is written.
use Rattle.std.proofs.Common.{◌≡◌, ◌-◌, refl, arith}
use Rattle.rules.specs.Lists.{up_from}
use Rattle.laws.specs.Joining.{notice_together}
use Rattle.sheets.specs.SheetReadings.{master_count}
use Rattle.sheets.specs.Views.{sheet_of}
use Rattle.joining.proofs.Writing.{fill, filled, notices_turn}
use Rattle.joining.proofs.held.put_notices.Goals as goal

pub loop-m-preserved : goal.loop-m-preserved
loop-m-preserved c =
    let f = notice_together (sheet_of c.args.a.now) (sheet_of c.args.b.now) in
    let s = rw c.notice_together.ensures at c.put_notice.ensures in
    fill _ _ _ c.loop-m.invariant (notices_turn f c.loop-m.m (omega arith)) s (omega arith)

pub returns : goal.returns
returns c =
    let e : master_count - c.loop-m.m ≡ 0 = omega arith in
    filled c.loop-m.invariant (rw e (unfold up_from in refl))
