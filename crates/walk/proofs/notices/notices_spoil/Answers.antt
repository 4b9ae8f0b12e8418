-- The closure tests one master.
use Rattle.std.proofs.Common.{refl, ◌∙◌, rules, tests}
use Rattle.std.proofs.lemmas.Iterator.{YieldsList-from_range}
use Rattle.std.proofs.lemmas.Iterator.Search.{any_from_yields_List}
use Rattle.rules.specs.Lists.{◌or◌, any, up_from}
use Rattle.sheets.specs.Views.{sheet_of}
use Rattle.walk.specs.Walk.{notice_spoils}
use Rattle.walk.proofs.notices.notices_spoil.Goals as goal

pub returns : goal.returns
unfolding any up_from ◌or◌ notice_spoils
returns c =
    let f = notice_spoils (sheet_of c.args.a.now) (sheet_of c.args.b.now) in
    any_from_yields_List f _ _ _ c.any.ensures.ran (YieldsList-from_range 0 16 16 refl refl) (λ x b q k. search (rules, tests)) ∙ refl
