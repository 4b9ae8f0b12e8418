-- The places of the kind's records are counted.
use Rattle.std.proofs.Common.{◌∙◌, eqb, arith, rules, tests, length}
use Rattle.std.proofs.lemmas.Iterator.{YieldsList-from_range}
use Rattle.std.proofs.lemmas.Iterator.Consumers.{YieldsList-from_filter, count_from_yields_List}
use Rattle.rules.specs.Sheet.{kind_number}
use Rattle.sheets.specs.SheetReadings.{record_at, no_record}
use Rattle.sheets.specs.Views.{set_of}
use Rattle.judging.specs.Judged.{of_kind}
use Rattle.judging.proofs.Numbers.{counted_places}
use Rattle.judging.proofs.committed.count_in.Goals as goal

pub returns : goal.returns
unfolding of_kind record_at
returns c =
    let w = set_of c.args.set.now in
    let k = kind_number c.args.kind in
    count_from_yields_List c.filter.result _ c.count.ensures.ran
    (YieldsList-from_filter _ (λ j. eqb (record_at w j).kind k)
    (YieldsList-from_range 0 c.record_count.result (length w.records) c.filter.ensures.source (omega arith)) c.filter.ensures.closure (λ x b q p. search (rules, tests)))
    ∙ counted_places no_record (λ r. eqb r.kind k) w.records
