-- Record after record: whether one has the key.
use Rattle.std.proofs.Common.{rules, refl, arith, eqb, ◌+◌, ◌*◌, ◌/◌, ◌∙◌, length}
use Rattle.std.proofs.lemmas.Iterator.{YieldsList-from_range}
use Rattle.std.proofs.lemmas.Iterator.Search.{any_from_yields_List}
use borrow.Author.Tests.{tests}
use Rattle.words.specs.Words.{word}
use Rattle.rules.specs.Sheet.{offered_records}
use Rattle.open_sets.proofs.SearchLaws.{one_has}
use Rattle.open_sets.proofs.reading.has.Goals as goal

pub returns : goal.returns
unfolding offered_records
returns c =
    let b = c.args.records.now in
    let key = c.args.key in
    any_from_yields_List (λ i. eqb (word 4 b (16 * i + 4)) key) _ _ _ c.any.ensures.ran (YieldsList-from_range 0 _ (length b / 16) refl (omega arith)) (λ i r q k. search (rules, tests))
    ∙ one_has b key (length b / 16) 0
