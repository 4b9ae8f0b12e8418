-- No record before record j has the key.
use Rattle.std.proofs.Common.{refl, sym, ◌∙◌, ap, arith, eq-eqb, ne_eqb}
use Rattle.std.specs.Prelude.{Some}
use Rattle.rules.specs.Sheet.{record_key}
use Rattle.rules.specs.Becoming.{applied_to}
use Rattle.judging.proofs.Firsts.{skips, stops, ends}
use Rattle.judging.proofs.recorded.record_of.Goals as goal

pub loop-j-init : goal.loop-j-init
unfolding applied_to
loop-j-init c = record { rest = refl }

pub returns-then-record-key : goal.returns-then-record-key
returns-then-record-key c = let l = c.loop-j in
    let e = c.record-record.ensures in
    ap Some e ∙ sym (stops l.invariant (omega arith) (eq-eqb _ _ (sym (ap record_key e) ∙ c.if-record-key.true)))

pub loop-j-preserved : goal.loop-j-preserved
loop-j-preserved c = let l = c.loop-j in
    let e = c.record-record.ensures in
    skips l.invariant (omega arith) (ne_eqb _ _ (λ q. c.if-record-key.false (ap record_key e ∙ q)))

pub returns : goal.returns
returns c = let l = c.loop-j in sym (ends l.invariant (omega arith))
