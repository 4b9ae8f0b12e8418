-- Each master is tested.
use Rattle.std.proofs.Common.{◌∙◌, refl, rules, tests}
use Rattle.std.proofs.lemmas.Iterator.{YieldsList-from_range}
use Rattle.std.proofs.lemmas.Iterator.Search.{all_from_yields_List}
use Rattle.rules.specs.Closing.{complete}
use Rattle.sheets.specs.SheetReadings.{master_count}
use Rattle.sheets.specs.Views.{sheet_of}
use Rattle.judging.specs.Judged.{nothing_owed}
use Rattle.judging.proofs.Numbers.{each_number}
use Rattle.judging.proofs.completeness.complete.Goals as goal

pub returns : goal.returns
unfolding complete nothing_owed
returns c =
    all_from_yields_List (nothing_owed (sheet_of c.args.sheet.now)) _ _ _ c.all.ensures.ran (YieldsList-from_range 0 master_count master_count refl refl)
    (λ x b q k. search (rules, tests))
    ∙ each_number (nothing_owed (sheet_of c.args.sheet.now)) 0 master_count
