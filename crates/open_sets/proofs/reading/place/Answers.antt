-- Record after record: the first that comes behind it.
use Rattle.std.proofs.Common.{rules, refl, arith, ltb, ◌+◌, ◌*◌, ◌/◌, ◌∙◌, length}
use Rattle.std.proofs.lemmas.Iterator.{YieldsList-from_range}
use Rattle.std.proofs.lemmas.Iterator.Search.{position_from_yields_List}
use borrow.Author.Tests.{tests}
use Rattle.words.specs.Words.{word}
use Rattle.rules.specs.Sheet.{offered_records}
use Rattle.open_sets.proofs.SearchLaws.{place_found}
use Rattle.open_sets.proofs.reading.place.Goals as goal

pub returns : goal.returns
unfolding offered_records
returns c =
    let b = c.args.records.now in
    let key = c.args.key in
    let n = length b / 16 in
    c.unwrap_or.ensures
    ∙ place_found b key n _ (position_from_yields_List (λ i. ltb key (word 4 b (16 * i + 4))) _ _ c.position.result c.position.ensures.ran (YieldsList-from_range 0 _ n refl (omega arith)) (λ i r q k. search (rules, tests)))
