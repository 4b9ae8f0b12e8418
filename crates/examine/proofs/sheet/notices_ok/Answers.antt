-- Each master's notice, tested.
use Rattle.std.proofs.Common.{◌+◌, ◌∙◌, get_or, rules, tests}
use Rattle.std.proofs.lemmas.Iterator.{YieldsList-from_range}
use Rattle.std.proofs.lemmas.Iterator.Search.{all_from_yields_List}
use Rattle.words.specs.Words.{word}
use Rattle.rules.specs.Sheet.{sound_notice}
use Rattle.examine.proofs.SheetTests.{notices_by_lem}
use Rattle.examine.proofs.sheet.notices_ok.Goals as goal

pub returns : goal.returns
returns c =
    let b = c.args.sheet.now.bytes.now in
    let by = c.args.by.now in
    all_from_yields_List (λ m. sound_notice (word 2 b 4) m (get_or b (8 + m) 0) (get_or by m 0)) _ _ c.all.result c.all.ensures.ran (YieldsList-from_range 0 16 16 (search rules) (search rules)) (λ x r q k. search (rules, tests))
    ∙ notices_by_lem b by c.requires
