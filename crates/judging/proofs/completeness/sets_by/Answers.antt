-- Those of the sets' places are counted at which a set of the master's stands.
use Rattle.std.proofs.Common.{◌%◌, ◌∙◌, eqb, arith, rules, tests, length}
use Rattle.std.proofs.lemmas.Iterator.{YieldsList-from_range}
use Rattle.std.proofs.lemmas.Iterator.Consumers.{YieldsList-from_filter, count_from_yields_List}
use Rattle.rules.specs.Sheet.{sets_of}
use Rattle.sheets.specs.SheetReadings.{set_at, no_set}
use Rattle.sheets.specs.Views.{sheet_of}
use Rattle.judging.proofs.Numbers.{counted_places}
use Rattle.judging.proofs.completeness.sets_by.Goals as goal

pub returns : goal.returns
unfolding sets_of set_at
returns c =
    let sets = (sheet_of c.args.sheet.now).sets in
    count_from_yields_List c.filter.result _ c.count.ensures.ran
    (YieldsList-from_filter _ (λ i. eqb ((set_at (sheet_of c.args.sheet.now) i).csn % 16) c.args.m)
    (YieldsList-from_range 0 c.set_count.result (length sets) c.filter.ensures.source (omega arith)) c.filter.ensures.closure (λ x b q k. search (rules, tests)))
    ∙ counted_places no_set (λ w. eqb (w.csn % 16) c.args.m) sets
