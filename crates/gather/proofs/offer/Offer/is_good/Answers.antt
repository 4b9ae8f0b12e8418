-- Each test of a set, and of a notice.
use Rattle.std.proofs.Common.{arith}
use Rattle.std.proofs.lemmas.Bool.Decides.{nat_tests}
use Rattle.rules.specs.Lists.{◌and◌}
use Rattle.gather.specs.Offers.{good_set, good_notice}
use Rattle.gather.proofs.offer.Offer.is_good.Goals as goal

pub returns-then-sen-epoch : goal.returns-then-sen-epoch
unfolding good_set ◌and◌
returns-then-sen-epoch c = grind (arith, nat_tests)

pub returns-else-sen-epoch : goal.returns-else-sen-epoch
unfolding good_set ◌and◌
returns-else-sen-epoch c = grind (arith, nat_tests)

pub returns-then-master-le15 : goal.returns-then-master-le15
unfolding good_notice ◌and◌
returns-then-master-le15 c = grind (arith, nat_tests)

pub returns-else-master-le15 : goal.returns-else-master-le15
unfolding good_notice ◌and◌
returns-else-master-le15 c = grind (arith, nat_tests)
