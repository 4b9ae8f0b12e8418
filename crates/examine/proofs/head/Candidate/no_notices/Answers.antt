-- The sixteen notice bytes, each tested.
use Rattle.std.proofs.Common.{◌==◌, ◌∙◌, take, drop, rules, tests}
use Rattle.std.proofs.lemmas.Iterator.{YieldsList-from_slice}
use Rattle.std.proofs.lemmas.Iterator.Search.{all_from_yields_List}
use Rattle.words.specs.Words.{part}
use Rattle.laws.specs.Chains.{list_all-is}
use Rattle.examine.specs.SheetForm.{none_noticed}
use Rattle.examine.proofs.head.Candidate.no_notices.Goals as goal

pub returns : goal.returns
unfolding none_noticed part
returns c =
    let notices = take 16 (drop 8 c.args.self.now.bytes.now) in
    all_from_yields_List (λ n. n == 255) _ _ c.all.result c.all.ensures.ran (YieldsList-from_slice notices (search rules)) (λ x r q k. search (rules, tests))
    ∙ list_all-is _ notices
