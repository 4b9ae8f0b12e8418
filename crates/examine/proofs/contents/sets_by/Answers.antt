-- `sets_by` tests and counts one set after another.
use Rattle.std.proofs.Common.{sym, ◌∙◌}
use Rattle.examine.proofs.SheetTests.{sets_stop, sets_go, sets_ended}
use Rattle.examine.proofs.contents.sets_by.Goals as goal

pub returns-then-not-set_ok : goal.returns-then-not-set_ok
returns-then-not-set_ok c = sets_stop _ _ _ c.loop-i.invariant c.loop-i-test.true (sym c.set_ok.ensures ∙ c.if-not-set_ok.true)

pub loop-i-preserved : goal.loop-i-preserved
loop-i-preserved c =
    sets_go _ _ _ c.loop-i.invariant c.loop-i-test.true (sym c.set_ok.ensures ∙ c.if-not-set_ok.false) c.count-records.ensures c.csn-prev.ensures c.type_inv.by c.count_set.ensures

pub returns : goal.returns
returns c = sets_ended _ _ _ c.loop-i.invariant c.loop-i-test.false c.then_some.ensures
