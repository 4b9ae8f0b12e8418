-- Sets of one csn are equal if their sens and bodies are.
use Rattle.std.proofs.Common.{arith}
use Rattle.std.proofs.lemmas.Bool.Decides.{nat_tests}
use Rattle.rules.specs.Lists.{◌and◌}
use Rattle.rules.specs.Gathering.{same_set, clash}
use Rattle.walk.proofs.Same.{same_bodies}
use Rattle.walk.proofs.clash.clash.Goals as goal

pub returns-then-sen : goal.returns-then-sen
unfolding clash same_set ◌and◌
returns-then-sen c = grind (arith, nat_tests)

pub returns-else-sen : goal.returns-else-sen
unfolding clash same_set ◌and◌
returns-else-sen c =
    let same = same_bodies c.args.v.now c.args.w.now in
    grind (arith, nat_tests)

pub returns-else-csn : goal.returns-else-csn
unfolding clash same_set ◌and◌
returns-else-csn c = grind (arith, nat_tests)
