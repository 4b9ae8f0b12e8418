-- Each refusal is the outcome's, and where none is given the record is entered.
use Rattle.std.proofs.Common.{arith}
use Rattle.std.proofs.lemmas.Bool.Decides.{nat_tests}
use Rattle.rules.specs.Lists.{◌and◌, ◌or◌}
use Rattle.rules.specs.Tag.{key_of_tag}
use Rattle.rules.specs.Refused.{enter_outcome}
use Rattle.desk.proofs.entering.admit.Goals as goal

pub returns-then-not-is_open_set : goal.returns-then-not-is_open_set
unfolding enter_outcome ◌and◌ ◌or◌
returns-then-not-is_open_set c = grind (arith, nat_tests)

pub returns-in_default : goal.returns-in_default
unfolding enter_outcome key_of_tag ◌and◌ ◌or◌
returns-in_default c = grind (arith, nat_tests)

pub returns-then-has_key : goal.returns-then-has_key
unfolding enter_outcome key_of_tag ◌and◌ ◌or◌
returns-then-has_key c = grind (arith, nat_tests)

pub returns-then-is_full : goal.returns-then-is_full
unfolding enter_outcome key_of_tag ◌and◌ ◌or◌
returns-then-is_full c = grind (arith, nat_tests)

pub returns : goal.returns
unfolding enter_outcome key_of_tag ◌and◌ ◌or◌
returns c = (grind (arith, nat_tests), grind (arith, nat_tests), grind (arith, nat_tests))
