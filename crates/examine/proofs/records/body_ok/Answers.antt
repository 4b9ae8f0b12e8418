-- `body_ok` tests one record after another.
use Rattle.std.proofs.Common.{sym, ◌∙◌, arith}
use Rattle.examine.proofs.RecordsBy.{body_stops, body_goes, body_ends}
use Rattle.examine.proofs.records.body_ok.Goals as goal

pub returns-then-not-record_ok : goal.returns-then-not-record_ok
returns-then-not-record_ok c =
    body_stops c.args.n _ _ _ c.args.at c.loop-i.invariant c.loop-i-test.true (sym c.record_ok.ensures ∙ c.if-not-record_ok.true)

pub loop-i-preserved : goal.loop-i-preserved
loop-i-preserved c =
    body_goes c.args.n _ _ _ c.args.at c.loop-i.invariant c.loop-i-test.true (sym c.record_ok.ensures ∙ c.if-not-record_ok.false) c.get-prev.ensures

pub returns : goal.returns
returns c = body_ends c.args.n _ _ _ c.args.at c.loop-i.invariant (omega arith)
