-- Each byte is from 48 to 57.
use Rattle.std.proofs.Common.{◌∙◌, arith}
use Rattle.std.proofs.lemmas.Bool.Decides.{nat_tests}
use Rattle.std.proofs.lemmas.Iterator.{YieldsList-from_slice}
use Rattle.std.proofs.lemmas.Iterator.Search.{all_from_yields_List}
use Rattle.rules.specs.Lists.{◌and◌}
use Rattle.rules.specs.Tag.{is_digit}
use Rattle.laws.specs.Chains.{list_all-is}
use Rattle.tags.proofs.reading.are_digits.Goals as goal

pub returns : goal.returns
unfolding is_digit ◌and◌
returns c =
    let tag = c.args.tag.now in
    all_from_yields_List is_digit _ _ _ c.all.ensures.ran (YieldsList-from_slice tag (cc)) (λ x b q k. grind (arith, nat_tests))
    ∙ list_all-is is_digit tag
